use Rattle.std.proofs.Common.{◌≡◌, ◌+◌, ℕ, Bool, List, length, subst, sym, ap, ◌∙◌, arith}
use Rattle.cert_bytes.specs.declared.item.Item.{Item}
use Rattle.cert_trim.specs.Flags.{stays_by, AreFlags}
use Rattle.cert_trim.specs.Trimmed.{new_number, number_behind_all, step_count, trimmed_by}
use Rattle.cert_trim.specs.Used.{CiteEarlier, used_from}
use Rattle.cert_trim.specs.Behind.{stays_behind, trimmed_behind}
use Rattle.cert_trim.proofs.AllUsed.{left_count}
use Rattle.cert_trim.proofs.Places.{at_start, same_stay}
use Rattle.cert_trim.proofs.Counts.{behind_from}
use Rattle.cert_trim.proofs.behind.left_behind.Goals as goal

pub used_flags-requires-clause-earlier : goal.used_flags-requires-clause-earlier
used_flags-requires-clause-earlier c =
    subst (CiteEarlier c.args.start) (sym c.as_slice.ensures.value) c.requires.earlier

-- the flags tell what stays
left : (start : ℕ) (items view others : List Item) (flags seen : List Bool)
    → others ≡ trimmed_by (stays_by start seen) start items
    → seen ≡ flags → AreFlags start flags (used_from start view) → view ≡ items
    → others ≡ trimmed_behind start items
left start items view others flags seen e s are v =
    e ∙ ap (λ (fs : List Bool). trimmed_by (stays_by start fs) start items) s
    ∙ ap (λ (used : ℕ → Bool). trimmed_by used start items) (same_stay start flags view are)
    ∙ ap (λ (xs : List Item). trimmed_by (stays_behind start xs) start items) v

pub returns-clause-items : goal.returns-clause-items
returns-clause-items c = left c.args.start c.args.items.items c.as_slice.result.now
    c.in_ok-items.items.items c.in_ok-flags.flags.items c.as_slice-3.result.now
    c.in_ok-items.ensures c.as_slice-3.ensures.value c.in_ok-flags.ensures.flags
    c.as_slice.ensures.value

-- the number behind what is left
counted : (start all : ℕ) (items others : List Item) (flags : List Bool)
    → all ≡ step_count items → length flags ≡ all
    → others ≡ trimmed_by (stays_by start flags) start items
    → new_number (stays_by start flags) (start + length flags) ≡ number_behind_all start others
counted start all items others flags many long e =
    let used = stays_by start flags in
    ap (new_number used) (ap (λ n. start + n) (long ∙ many) ∙ sym (behind_from start items))
    ∙ sym (left_count used items start)
    ∙ ap (λ n. number_behind_all n (trimmed_by used start items)) (at_start start flags)
    ∙ ap (number_behind_all start) (sym e)

pub returns-clause-next : goal.returns-clause-next
returns-clause-next c =
    let all = c.args.all in
    let long : length c.in_ok-flags.flags.items ≡ all =
    omega (arith, c.in_ok-flags.flags.ok.0, c.in_ok-flags.ensures.many) in
    let items : c.in_ok-items.items.items
    ≡ trimmed_by (stays_by c.args.start c.in_ok-flags.flags.items) c.args.start c.args.items.items =
    c.in_ok-items.ensures
    ∙ ap (λ (fs : List Bool). trimmed_by (stays_by c.args.start fs) c.args.start c.args.items.items)
    c.as_slice-3.ensures.value in
    c.in_ok-numbers.ensures.next
    ∙ ap (λ (fs : List Bool). new_number (stays_by c.args.start fs) (c.args.start + length fs))
    c.as_slice-2.ensures.value
    ∙ counted c.args.start all c.args.items.items c.in_ok-items.items.items
    c.in_ok-flags.flags.items c.requires.count long items
