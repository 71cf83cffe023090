use Rattle.std.proofs.Common.{◌≡◌, ◌<◌, ◌-◌, ◌+◌, ℕ, length, take, drop, ap, subst, ◌∙◌, arith}
use Rattle.cert_trim.specs.Flags.{AreFlags}
use Rattle.cert_trim.specs.Trimmed.{number_behind_all}
use Rattle.cert_trim.specs.Used.{used_from}
use Rattle.cert_trim.proofs.Counts.{cites_at, front_least, goes_back, counted_back, used_back}
use Rattle.cert_trim.proofs.used.flag_items.Goals as goal

-- the number of items before the item, and behind it
before_it : (n done : ℕ) → done < n → (n - done) ≡ (n - 1 - done) + 1
before_it n done h = omega (arith, h)

after_it : (n done : ℕ) → (n - 1 - done) ≡ (n - (done + 1))
after_it n done = omega arith

pub flag_item-place-requires-clause-room : goal.flag_item-place-requires-clause-room
flag_item-place-requires-clause-room c =
    let l = front_least c.args.items.now (length c.args.items.now - c.loop-done.done) in
    let e = c.loop-done.invariant.0 in omega (arith, l, e)

pub flag_item-place-requires-clause-number : goal.flag_item-place-requires-clause-number
flag_item-place-requires-clause-number c =
    let items = c.args.items.now in
    let at = length items - 1 - c.loop-done.done in
    let below : at < length items = omega arith in
    let counted = c.loop-done.invariant.0 ∙ ap (λ n. number_behind_all 0 (take n items))
    (before_it (length items) c.loop-done.done c.loop-done-test.true) in (
      number_behind_all 0 (take at items),
      goes_back
          items at c.loop-done.place c.index-items-at.result below c.index-items-at.is counted,
    )

pub flag_item-place-requires-clause-cites : goal.flag_item-place-requires-clause-cites
flag_item-place-requires-clause-cites c =
    let items = c.args.items.now in
    let at = length items - 1 - c.loop-done.done in
    let below : at < length items = omega arith in
    let k = c.requires.count in
    let m = c.requires.many in
    cites_at c.args.start items at c.index-items-at.result
    (c.args.start + length c.loop-done.flags) below
    c.index-items-at.is c.requires.earlier (omega (arith, k, m))

pub loop-done-preserved : goal.loop-done-preserved
loop-done-preserved c =
    let items = c.args.items.now in
    let done = c.loop-done.done in
    let at = length items - 1 - done in
    let x = c.index-items-at.result in
    let behind = c.loop-done.place in
    let before = c.flag_item-place.result in
    let below : at < length items = omega arith in
    let here = before_it (length items) done c.loop-done-test.true in
    let counted = c.loop-done.invariant.0 ∙ ap (λ n. number_behind_all 0 (take n items)) here in
    let start = c.args.start in
    let flags = c.flag_item-place.ensures.flags
    (used_from (start + behind) (drop (at + 1) items)) (subst (λ n. AreFlags start c.loop-done.flags
    (used_from (start + behind) (drop n items))) here c.loop-done.invariant.1) in (
      counted_back items at behind
          x below c.index-items-at.is counted before c.flag_item-place.ensures.before
          ∙ ap (λ n. number_behind_all 0 (take n items)) (after_it (length items) done),
      subst (λ n. AreFlags start c.flag_item-place.new.flags
          (used_from (start + before) (drop n items)))
          (after_it (length items) done)
          (subst (AreFlags start c.flag_item-place.new.flags) (used_back items at behind
          x below c.index-items-at.is counted start before c.flag_item-place.ensures.before) flags),
    )
