use Rattle.std.specs.Prelude.{◌≡◌, ◌<◌, ◌+◌, ◌++◌, [], ◌∷◌, length, take}
use Rattle.std.proofs.Common.{sym, ◌∙◌, ap, subst, arith}
use Rattle.std.proofs.lemmas.List.{take_more, length-take}
use Rattle.cert_bytes.specs.declared.style.Seen.{Seen}
use Rattle.cert_bytes.specs.Styles.{seen_after, seen_behind}
use Rattle.cert_bytes.proofs.Styles.{seen_both}
use Rattle.cert_bytes.specs.Spelling.{spelling_of, spelled_behind}
use Rattle.cert_writer.proofs.Seen.{seen_few}
use Rattle.cert_writer.proofs.Spelled.{spelled_more}
use Rattle.cert_writer.proofs.spell.spell_items.Goals as goal

pub after-next-requires-clause-steps : goal.after-next-requires-clause-steps
after-next-requires-clause-steps c =
    let i = c.loop-item.item-index in
    let items = c.args.items.now in
    let below : i < length items = omega arith in
    let few = (seen_few c.args.seen (take i items)).0 in
    let l = length-take i items in
    let q = ap (λ (q : Seen). q.steps) c.loop-item.invariant.next_is in
    omega (arith, below, few, l, q, c.requires.steps)

pub after-next-requires-clause-sections : goal.after-next-requires-clause-sections
after-next-requires-clause-sections c =
    let i = c.loop-item.item-index in
    let items = c.args.items.now in
    let below : i < length items = omega arith in
    let few = (seen_few c.args.seen (take i items)).1 in
    let l = length-take i items in
    let q = ap (λ (q : Seen). q.sections) c.loop-item.invariant.next_is in
    omega (arith, below, few, l, q, c.requires.sections)

pub loop-item-preserved : goal.loop-item-preserved
loop-item-preserved c =
    let i = c.loop-item.item-index in
    let items = c.args.items.now in
    let seen = c.args.seen in
    let x = c.item-item.result in
    let below : i < length items = omega arith in
    let more : take (i + 1) items ≡ take i items ++ x ∷ [] =
    take_more items i x below ∙ ap (λ y. take i items ++ y ∷ []) (sym c.item-item.is) in
    let old = c.args.out.now.items in
    record {
      spelled = spelled_more seen old c.loop-item.out.items c.write_item2.new.out.items
          (take i items) x c.loop-item.invariant.spelled
          (subst (λ q. c.write_item2.new.out.items ≡ c.loop-item.out.items ++ spelling_of q x)
          c.loop-item.invariant.next_is c.in_ok-write_item2.ensures.ok)
          ∙ ap (λ ys. old ++ spelled_behind seen ys) (sym more);
      next_is = c.after-next.ensures ∙ ap (λ q. seen_after q x) c.loop-item.invariant.next_is
          ∙ sym (seen_both seen (take i items) (x ∷ [])) ∙ ap (seen_behind seen) (sym more);
    }
