-- The lines of a front are those of the list as far as a fault before its end goes.
use Rattle.std.proofs.Common.{◌≡◌, ◌≤◌, ◌<◌, ◌+◌, ◌-◌, ◌==◌, ℕ, zero, suc, Bool, true, false, List}
use Rattle.std.proofs.Common.{[], ◌∷◌, length, take, drop, Option, Some, refl, sym, ap, ◌∙◌, arith}
use Rattle.std.proofs.Common.{get_or, ⊎_elim}
use Rattle.std.specs.Prelude.{nat_lt, if◌then◌else◌}
use Rattle.std.specs.List.{position_or_len, after_first}
use Rattle.std.proofs.lemmas.Bool.{cases_lt}
use Rattle.std.proofs.lemmas.List.{drop-take, drop_all, length-take, length-drop, get_or-take}
use Rattle.std.proofs.lemmas.List.Sums.{position_or_len_is, fails_before_first, passes_at_first}
use Rattle.name_list.specs.declared.fault.ListFault.{ListFault}
use Rattle.name_list.specs.declared.fault.ListKind.TheVariants as kind
use Rattle.name_list.specs.Order.{earlier}
use Rattle.name_list.specs.Lists.{is_feed, lines_of, fault, line_fault}
use Rattle.name_list.proofs.First.{empty_line, one_too_many, next_line}

-- ---- faults behind byte 2^16

-- that the list is too long
abbrev pub too_long : ListFault
too_long = fault kind.Limit 65536

-- the first of a fault and that one
abbrev pub capped : Option ListFault → Option ListFault
capped o = earlier o (Some too_long)

lost : (f : ListFault) → 65536 < f.at → capped (Some f) ≡ Some too_long
lost f h = let q : nat_lt 65536 f.at ≡ true = grind (arith, h) in rw q refl

far_line : (b : Bool) (at : ℕ) (o : Option ListFault) → 65536 < at → capped o ≡ Some too_long
    → capped (if b then Some (fault kind.Limit at) else o) ≡ Some too_long
far_line true at o h rest = lost (fault kind.Limit at) h
far_line false at o h rest = rest

far : (k at : ℕ) (lines : List (List ℕ)) → 65536 < at
    → capped (line_fault k at lines) ≡ Some too_long
far k at [] h = refl
far k at ([] ∷ lines) h = lost (fault kind.EmptyName at) h
far k at ((b ∷ line) ∷ lines) h = far_line (k == 64) at _ h
    (far (k + 1) (at + (length (b ∷ line) + 1)) lines (omega (arith, h)))

-- ---- where the first line feed of a front stands

module _ (text : List ℕ) (n : ℕ) (most : n ≤ length text) where
  front_long : length (take n text) ≡ n
  front_long = let e = length-take n text in omega (arith, e, most)

  not_yet : (k : ℕ) → k < n → k < position_or_len is_feed text
      → is_feed (get_or (take n text) k 0) ≡ false
  not_yet k l h = ap is_feed (get_or-take n text k 0 l) ∙ fails_before_first is_feed text k 0 h

  stops_within : position_or_len is_feed text < n
      → position_or_len is_feed text ≡ position_or_len is_feed (take n text)
  stops_within h =
      let p = position_or_len is_feed text in
      sym (position_or_len_is is_feed (take n text) p 0 (omega (arith, front_long, h))
      (λ k l. not_yet k (omega (arith, l, h)) l)
      (λ l. ap is_feed (get_or-take n text p 0 h)
      ∙ passes_at_first is_feed text 0 (omega (arith, h, most))))

  stops_later : n ≤ position_or_len is_feed text → n ≡ position_or_len is_feed (take n text)
  stops_later h =
      sym (position_or_len_is is_feed (take n text) n 0 (omega (arith, front_long))
      (λ k l. not_yet k l (omega (arith, l, h))) (λ l. absurd (omega (arith, l, front_long))))

  -- what is left behind the first line of the front
  left_within : (p : ℕ) → p ≡ position_or_len is_feed text → p < n
      → p ≡ position_or_len is_feed (take n text)
      → take (n - (p + 1)) (after_first is_feed text) ≡ after_first is_feed (take n text)
  left_within p is h same =
      let sum : (p + 1) + (n - (p + 1)) ≡ n = omega (arith, h) in
      ap (λ q. take (n - (p + 1)) (drop (q + 1) text)) (sym is)
      ∙ sym (drop-take (p + 1) (n - (p + 1)) text)
      ∙ ap (λ m. drop (p + 1) (take m text)) sum
      ∙ ap (λ q. drop (q + 1) (take n text)) same

  left_none : n ≡ position_or_len is_feed (take n text)
      → [] ≡ after_first is_feed (take n text)
  left_none is = sym (drop_all (position_or_len is_feed (take n text) + 1) (take n text)
      (omega (arith, front_long, is)))

-- ---- lines

full_or_less : (k : ℕ) → k ≤ 64 → ¬ (k ≡ 64) → k < 64
full_or_less k l h = ⊎_elim (λ s. s) (λ g. absurd (h (omega (arith, g, l)))) (cases_lt k 64)

abbrev Agrees : ℕ → Type 0
Agrees size = (text : List ℕ) (k at n : ℕ) → length text ≤ size → n ≤ length text
    → 65537 ≤ at + n → k ≤ 64
    → capped (line_fault k at (lines_of (take n text)))
    ≡ capped (line_fault k at (lines_of text))

module _ (size : ℕ) (smaller : Agrees size) (text : List ℕ) (k at n : ℕ)
    (short : length text ≤ suc size) (most : n ≤ length text) (wide : 65537 ≤ at + n)
    (few : k ≤ 64) (near : at ≤ 65536) where
  front_some : 0 < length (take n text)
  front_some = let e = front_long text n most in omega (arith, e, wide, near)

  some : 0 < length text
  some = omega (arith, most, wide, near)

  -- the first line ends in the front
  within : (p : ℕ) → p ≡ position_or_len is_feed text → p < n
      → capped (line_fault k at (lines_of (take n text)))
      ≡ capped (line_fault k at (lines_of text))
  within p is h =
      let same : p ≡ position_or_len is_feed (take n text) =
      is ∙ stops_within text n most (omega (arith, is, h)) in
      ⊎_elim
      (λ l.
      let none : p ≡ 0 = omega (arith, l) in
      ap capped (empty_line (take n text) k at p same none front_some
      ∙ sym (empty_line text k at p is none some)))
      (λ g.
      let there : ¬ (p ≡ 0) = λ e. omega (arith, e, g) in
      ⊎_elim
      (λ l.
      let later = after_first is_feed text in
      let size_left = length-drop (position_or_len is_feed text + 1) text in
      let behind = left_within text n most p is h same in
      ap capped (next_line (take n text)
      (take (n - (p + 1)) later) k at p same there front_some l behind)
      ∙ smaller later (k + 1) (at + (p + 1)) (n - (p + 1)) (omega (arith, size_left, short, some))
      (omega (arith, size_left, most, is, h)) (omega (arith, wide, h)) (omega (arith, l))
      ∙ sym (ap capped (next_line text later k at p is there some l refl)))
      (λ l.
      let all : k ≡ 64 = omega (arith, l, few) in
      ap capped (one_too_many (take n text) k at p same there front_some all
      ∙ sym (one_too_many text k at p is there some all)))
      (cases_lt k 64))
      (cases_lt p 1)

  -- the first line goes on behind it
  behind : (p : ℕ) → p ≡ position_or_len is_feed text → n ≤ p
      → capped (line_fault k at (lines_of (take n text)))
      ≡ capped (line_fault k at (lines_of text))
  behind p is h =
      let same : n ≡ position_or_len is_feed (take n text) =
      stops_later text n most (omega (arith, is, h)) in
      let there : ¬ (n ≡ 0) = λ e. omega (arith, e, wide, near) in
      let here : ¬ (p ≡ 0) = λ e. omega (arith, e, h, wide, near) in
      ⊎_elim
      (λ l.
      let none = left_none text n most same in
      ap capped (next_line (take n text) [] k at n same there front_some l none)
      ∙ far (k + 1) (at + (n + 1)) (lines_of []) (omega (arith, wide))
      ∙ sym (ap capped (next_line text (after_first is_feed text) k at p is here some l refl)
      ∙ far (k + 1) (at + (p + 1)) (lines_of (after_first is_feed text)) (omega (arith, wide, h))))
      (λ l.
      let all : k ≡ 64 = omega (arith, l, few) in
      ap capped (one_too_many (take n text) k at n same there front_some all
      ∙ sym (one_too_many text k at p is here some all)))
      (cases_lt k 64)

  agree_near : capped (line_fault k at (lines_of (take n text)))
      ≡ capped (line_fault k at (lines_of text))
  agree_near = ⊎_elim (within (position_or_len is_feed text) refl)
      (behind (position_or_len is_feed text) refl) (cases_lt (position_or_len is_feed text) n)

agree_far : (text : List ℕ) (k at n : ℕ) → 65536 < at
    → capped (line_fault k at (lines_of (take n text))) ≡ capped (line_fault k at (lines_of text))
agree_far text k at n h = far k at (lines_of (take n text)) h ∙ sym (far k at (lines_of text) h)

agree : (size : ℕ) → Agrees size
agree zero text k at n short most wide few =
    agree_far text k at n (omega (arith, short, most, wide))
agree (suc size) text k at n short most wide few = ⊎_elim
    (λ l. agree_far text k at n l)
    (λ g. agree_near size (agree size) text k at n short most wide few g)
    (cases_lt 65536 at)

pub lines_agree : (text : List ℕ) (n : ℕ) → n ≤ length text → 65537 ≤ n
    → capped (line_fault 0 0 (lines_of (take n text))) ≡ capped (line_fault 0 0 (lines_of text))
lines_agree text n most wide =
    agree (length text) text 0 0 n (omega arith) most (omega (arith, wide)) (omega arith)
