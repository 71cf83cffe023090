use Rattle.std.proofs.Common.{◌≡◌, ◌<◌, ◌≤◌, ◌+◌, ◌++◌, ◌∷◌, [], ℕ, List, length, vec_capacity}
use Rattle.std.proofs.Common.{get_or, subst, sym, ap, ◌∙◌, arith}
use Rattle.std.proofs.lemmas.Grind.{common_steps}
use Rattle.cert_trim.specs.Flags.{stays_by, number_at}
use Rattle.cert_trim.specs.Trimmed.{new_number}
use Rattle.cert_trim.proofs.Numbers.{next_of_used, next_of_unused}
use Rattle.cert_trim.proofs.Places.{stays_at, at_start}
use Rattle.cert_trim.proofs.numbering.new_numbers.Goals.{then-flag, else-flag}
use Rattle.cert_trim.proofs.numbering.new_numbers.Goals as goal

-- one number more
numbers_more : (xs : List ℕ) (next i : ℕ) (f : ℕ → ℕ) → length xs ≡ i → ((n : ℕ) → n < i
    → get_or xs n 0 ≡ f n) → next ≡ f i → (n : ℕ) → n < i + 1 → get_or (xs ++ next ∷ []) n 0 ≡ f n
numbers_more xs next i f long below here n h = grind (arith, common_steps)

pub loop-flag-init : goal.loop-flag-init
loop-flag-init c =
    let start = c.args.start in
    let none : start + 0 ≡ start = omega arith in
    let first : start ≡ new_number (stays_by start c.args.flags.now) (start + 0) =
    sym (at_start start c.args.flags.now)
    ∙ ap (new_number (stays_by start c.args.flags.now)) (sym none) in (
      first_of (omega arith, grind (arith, common_steps)),
      first_of (omega arith, grind (arith, common_steps)),
      omega arith,
      first,
      λ n l. absurd (omega (arith, l)),
    )

pub loop-flag-preserved : goal.loop-flag-preserved
loop-flag-preserved c =
    let old = c.loop-flag.invariant in
    let start = c.args.start in
    let used = stays_by start c.args.flags.now in
    let i = c.loop-flag.flag-index in
    let numbers : (n : ℕ) → n < i + 1
    → number_at c.push_reserved.new.self.items n ≡ new_number used (start + n) =
    subst (λ (xs : List ℕ). (n : ℕ) → n < i + 1
    → number_at xs n ≡ new_number used (start + n))
    (sym c.push_reserved.ensures.items) (numbers_more c.loop-flag.new.items c.loop-flag.next i
    (λ n. new_number used (start + n)) old.0 old.4 old.3) in
    let size : length c.push_reserved.new.self.items ≡ i + 1 =
    first_of (omega arith, grind (arith, common_steps)) in
    let room : length c.args.flags.now ≤ vec_capacity c.push_reserved.new.self =
    (let k = c.push_reserved.ensures.capacity in let b = old.1 in omega (arith, k, b)) in
    let few = old.2 in
    let here = stays_at start c.args.flags.now i in
    let behind : start + (i + 1) ≡ start + i + 1 = omega arith in
    elim c.if-flag.branch [
      | then-flag w ↦ (
        size,
        room,
        (let k = w.next-is in omega (arith, k, few)),
        w.next-is ∙ ap (λ n. n + 1) old.3
            ∙ sym (next_of_used used (start + i) (here ∙ w.if-flag.true))
            ∙ ap (new_number used) (sym behind),
        numbers,
      )
      | else-flag w ↦ (
        size,
        room,
        (let k = w.next-is in omega (arith, k, few)),
        w.next-is ∙ old.3 ∙ sym (next_of_unused used (start + i) (here ∙ w.if-flag.false))
            ∙ ap (new_number used) (sym behind),
        numbers,
      )
    ]
