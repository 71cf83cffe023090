-- The first 65,540 bytes of a list decide.
use Rattle.std.proofs.Common.{◌≡◌, ◌≤◌, ◌<◌, ℕ, Bool, true, false, List, [], ◌∷◌, length, take}
use Rattle.std.proofs.Common.{Option, Some, None, refl, sym, ap, subst, ◌∙◌, arith, ⊎_elim}
use Rattle.std.specs.Prelude.{nat_lt, ◌||◌, if◌then◌else◌}
use Rattle.std.specs.Str.{IsValidUpTo}
use Rattle.std.proofs.lemmas.Bool.{cases_lt}
use Rattle.std.proofs.lemmas.List.{take_all, length-take}
use Rattle.name_list.specs.declared.fault.ListFault.{ListFault}
use Rattle.name_list.specs.Order.{earlier}
use Rattle.name_list.specs.Lists.{lines_of, line_fault, long_fault, empty_fault, plain_fault}
use Rattle.name_list.specs.Lists.{ill_fault, IsIllAt, IsFaultOf}
use Rattle.name_list.specs.Fronts.{FrontsDecide, FaultlessAreWhole}
use Rattle.name_list.proofs.Texts.{ill_or_text, ill_front, after_text, not_before}
use Rattle.name_list.proofs.FrontLines.{capped, too_long, lines_agree}

-- ---- of two faults

not_less : (a b : Bool) → (a || b) ≡ false → a ≡ false
not_less true b e = absurd (cc e)
not_less false b e = refl

abbrev IsWithin : Option ListFault → Type 0
IsWithin o = (f : ListFault) × (o ≡ Some f) × (f.at ≤ 65536)

the_first : (f g : ListFault) (c d : Bool) → (nat_lt g.at f.at || c) ≡ d → g.at ≤ 65536
    → IsWithin (if d then Some g else Some f)
the_first f g c true e h = (g, refl, h)
the_first f g c false e h =
    let q = not_less (nat_lt g.at f.at) c e in
    let l : f.at ≤ g.at = grind (arith, q) in
    (f, refl, omega (arith, l, h))

capped_within : (o : Option ListFault) → IsWithin (capped o)
capped_within None = (too_long, refl, omega arith)
capped_within (Some f) = the_first f too_long _ _ refl (omega arith)

-- a fault behind the other is passed over
passed_over : (a : ℕ) (o : Option ListFault) → IsWithin o → 65536 < a
    → earlier (ill_fault (Some a)) o ≡ o
passed_over a o w h =
    let most = w.2 in
    let q : nat_lt w.0.at a ≡ true = grind (arith, most, h) in
    let here : earlier (ill_fault (Some a)) (Some w.0) ≡ Some w.0 = rw q refl in
    subst (λ x. earlier (ill_fault (Some a)) x ≡ x) (sym w.1) here

-- ---- faults that have nothing to do with the encoding

not_empty : (text : List ℕ) → 0 < length text → empty_fault text ≡ None
not_empty [] h = absurd (omega (arith, h))
not_empty (b ∷ text) h = refl

is_long : (text : List ℕ) → 65536 < length text → long_fault text ≡ Some too_long
is_long text h = let q : nat_lt 65536 (length text) ≡ true = grind (arith, h) in rw q refl

plain_of_long : (text : List ℕ) → 65536 < length text
    → plain_fault text ≡ capped (line_fault 0 0 (lines_of text))
plain_of_long text h =
    ap (λ o. earlier o (earlier (line_fault 0 0 (lines_of text)) (long_fault text)))
    (not_empty text (omega (arith, h)))
    ∙ ap (earlier (line_fault 0 0 (lines_of text))) (is_long text h)

-- ---- a front of a longer list

module _ (text : List ℕ) (n : ℕ) (most : n ≤ length text) (wide : 65540 ≤ n) where
  front_plain : plain_fault (take n text) ≡ plain_fault text
  front_plain =
      let e = length-take n text in
      plain_of_long (take n text) (omega (arith, e, most, wide))
      ∙ lines_agree text n most (omega (arith, wide))
      ∙ sym (plain_of_long text (omega (arith, most, wide)))

  plain_within : IsWithin (plain_fault text)
  plain_within = subst IsWithin (sym (plain_of_long text (omega (arith, most, wide))))
      (capped_within (line_fault 0 0 (lines_of text)))

  -- the list's encoding plays no part
  no_part : (o : Option ListFault) → o ≡ plain_fault (take n text)
      → (ill : Option ℕ) → IsIllAt text ill → ((m : ℕ) → IsValidUpTo text m → 65536 < m)
      → IsFaultOf text o
  no_part o e None at behind = (None, at, e ∙ front_plain)
  no_part o e (Some m) at behind = (
    Some m,
    at,
    e ∙ front_plain ∙ sym (passed_over m (plain_fault text) plain_within (behind m at)),
  )

  by_ill : (o : Option ListFault) (ill : Option ℕ) → IsIllAt (take n text) ill
      → o ≡ earlier (ill_fault ill) (plain_fault (take n text)) → IsFaultOf text o
  by_ill o None at e =
      let known = ill_or_text text in
      no_part o e known.0 known.1 (λ m v.
      let l = after_text text n m at v in omega (arith, l, wide))
  by_ill o (Some a) at e = ⊎_elim
      (λ l.
      let known = ill_or_text text in
      let within = subst IsWithin (sym front_plain) plain_within in
      no_part o (e ∙ passed_over a (plain_fault (take n text)) within l) known.0 known.1 (λ m v.
      let b = not_before text n a m at v in omega (arith, b, l)))
      (λ g. (
        Some a,
        ill_front text n a (omega (arith, g, wide)) at,
        e ∙ ap (earlier (ill_fault (Some a))) front_plain,
      ))
      (cases_lt 65536 a)

front_or_all : (text : List ℕ) (n : ℕ) → 65540 ≤ n → (o : Option ListFault)
    → IsFaultOf (take n text) o → IsFaultOf text o
front_or_all text n wide o h = ⊎_elim
    (λ l. subst (λ xs. IsFaultOf xs o) (take_all n text (omega (arith, l))) h)
    (λ g. by_ill text n g wide o h.0 h.1 h.2)
    (cases_lt (length text) n)

pub fronts_decide : FrontsDecide
fronts_decide text o h = front_or_all text 65540 (omega arith) o h

-- ---- a front without a fault

none_first : (o p : Option ListFault) → IsWithin p → ¬ (None ≡ earlier o p)
none_first None p w e = absurd (cc (e ∙ w.1))
none_first (Some f) p w e = one_of _ (e ∙ ap (earlier (Some f)) w.1) where
  one_of : (b : Bool) → None ≡ (if b then Some w.0 else Some f) → ⊥
  one_of true e = absurd (cc e)
  one_of false e = absurd (cc e)

long_has_fault : (text : List ℕ) → 65536 < length text → ¬ (IsFaultOf text None)
long_has_fault text h f =
    let within = subst IsWithin (sym (plain_of_long text h))
    (capped_within (line_fault 0 0 (lines_of text))) in
    none_first (ill_fault f.0) (plain_fault text) within f.2

whole_front : (text : List ℕ) (n : ℕ) → 65540 ≤ n → IsFaultOf (take n text) None
    → take n text ≡ text
whole_front text n wide h =
    let e = length-take n text in
    ⊎_elim
    (λ l. absurd (long_has_fault (take n text) l h))
    (λ g. take_all n text (omega (arith, e, g, wide)))
    (cases_lt 65536 (length (take n text)))

pub faultless_are_whole : FaultlessAreWhole
faultless_are_whole text h = whole_front text 65540 (omega arith) h
