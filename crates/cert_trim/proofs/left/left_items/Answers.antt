use Rattle.std.proofs.Common.{◌≡◌, ◌+◌, ◌++◌, ◌∷◌, [], List, length, sym, ap, ◌∙◌, append_assoc}
use Rattle.std.proofs.Common.{arith, length-append}
use Rattle.cert_bytes.specs.declared.item.Item.{Item}
use Rattle.cert_trim.specs.Flags.{stays_by, number_of}
use Rattle.cert_trim.specs.Trimmed.{new_number, number_behind}
use Rattle.cert_trim.proofs.Counts.{cites_next, behind_append, behind_from}
use Rattle.cert_trim.proofs.Leaving.{same_item, stays_more, goes_more}
use Rattle.cert_trim.proofs.Places.{stays_from, same_numbers}
use Rattle.cert_trim.proofs.left.left_items.Goals as goal

split : (items yielded rest later : List Item) (i : Item)
    → yielded ++ rest ≡ items → rest ≡ i ∷ later → items ≡ yielded ++ i ∷ later
split items yielded rest later i e s = sym e ∙ ap (λ xs. yielded ++ xs) s

joined : (items yielded rest later : List Item) (i : Item)
    → yielded ++ rest ≡ items → rest ≡ i ∷ later → (yielded ++ i ∷ []) ++ later ≡ items
joined items yielded rest later i e s =
    append_assoc yielded (i ∷ []) later ∙ sym (split items yielded rest later i e s)

longer : (yielded : List Item) (i : Item) → length (yielded ++ i ∷ []) ≡ length yielded + 1
longer yielded i = let e = length-append yielded (i ∷ []) in omega (arith, e)

pub renumbered-requires : goal.renumbered-requires
renumbered-requires c =
    let e = split c.args.items.items
    c.loop-item.yielded c.loop-item.item-iterator.rest.items c.next.new.self.rest.items
    c.in-Some.item c.loop-item.invariant.2 c.in-Some.ensures.steps.0 in
    let m = c.requires.many in
    cites_next c.args.start c.args.items.items c.loop-item.yielded c.next.new.self.rest.items
    c.in-Some.item (c.args.start + length c.args.numbers.now) e c.requires.earlier
    (omega (arith, m))

pub loop-item-preserved-then-stays : goal.loop-item-preserved-then-stays
loop-item-preserved-then-stays c =
    let i = c.in-Some.item in
    let old = c.loop-item.invariant in
    let long = longer c.loop-item.yielded i in
    let start = c.args.start in
    let used = stays_by start c.args.flags.now in
    let e = split c.args.items.items c.loop-item.yielded c.loop-item.item-iterator.rest.items
    c.next.new.self.rest.items i old.2 c.in-Some.ensures.steps.0 in
    let m = c.requires.many in
    let below = cites_next start c.args.items.items c.loop-item.yielded c.next.new.self.rest.items
    i (start + length c.args.numbers.now) e c.requires.earlier (omega (arith, m)) in
    let same = same_item (number_of start c.args.numbers.now)
    (new_number used) (start + length c.args.numbers.now)
    (same_numbers start c.args.flags.now c.args.numbers.now c.requires.numbers) i below in
    let size : length c.push_reserved.new.self.items ≡ length c.loop-item.left.items + 1 =
    ap (λ (xs : List Item). length xs) c.push_reserved.ensures.items
    ∙ longer c.loop-item.left.items c.renumbered.result in (
      tt,
      tt,
      joined c.args.items.items c.loop-item.yielded c.loop-item.item-iterator.rest.items
          c.next.new.self.rest.items i old.2 c.in-Some.ensures.steps.0,
      c.number_behind-place.ensures.is
          ∙ ap (λ n. number_behind n i) old.3 ∙ sym (behind_append c.loop-item.yielded (i ∷ []) 0),
      (let n = c.number_behind-place.ensures.next in let b = old.4 in omega (arith, long, n, b)),
      (let b = old.5 in omega (arith, long, size, b)),
      (let b = old.6 in let k = c.push_reserved.ensures.capacity in omega (arith, b, k)),
      c.push_reserved.ensures.items
          ∙ stays_more used start c.loop-item.yielded c.loop-item.left.items
          (start + c.loop-item.place) i c.renumbered.result
          (ap (λ n. start + n) old.3 ∙ sym (behind_from start c.loop-item.yielded)) old.7
          (c.if-stays.ensures ∙ stays_from start c.args.flags.now c.loop-item.place i)
          (c.renumbered.ensures ∙ same),
    )

pub loop-item-preserved-else-stays : goal.loop-item-preserved-else-stays
loop-item-preserved-else-stays c =
    let i = c.in-Some.item in
    let old = c.loop-item.invariant in
    let long = longer c.loop-item.yielded i in
    let start = c.args.start in
    let used = stays_by start c.args.flags.now in (
      tt,
      tt,
      joined c.args.items.items c.loop-item.yielded c.loop-item.item-iterator.rest.items
          c.next.new.self.rest.items i old.2 c.in-Some.ensures.steps.0,
      c.number_behind-place.ensures.is
          ∙ ap (λ n. number_behind n i) old.3 ∙ sym (behind_append c.loop-item.yielded (i ∷ []) 0),
      (let n = c.number_behind-place.ensures.next in let b = old.4 in omega (arith, long, n, b)),
      (let b = old.5 in omega (arith, long, b)),
      old.6,
      goes_more used start c.loop-item.yielded
          c.loop-item.left.items (start + c.loop-item.place) i
          (ap (λ n. start + n) old.3 ∙ sym (behind_from start c.loop-item.yielded)) old.7
          (c.if-stays.ensures ∙ stays_from start c.args.flags.now c.loop-item.place i),
    )
