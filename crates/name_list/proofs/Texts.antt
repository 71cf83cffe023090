-- Where a list is no text, and where its front is none.
use Rattle.std.proofs.Common.{◌≡◌, ◌≤◌, ◌<◌, ◌+◌, ◌-◌, ℕ, zero, suc, Bool, true, false, List, []}
use Rattle.std.proofs.Common.{◌∷◌, length, take, Option, Some, None, refl, sym, ap, subst, ◌∙◌}
use Rattle.std.proofs.Common.{arith, ⊎_elim}
use Rattle.std.specs.Prelude.{◌&&◌}
use Rattle.std.specs.Str.{IsUtf8, IsValidUpTo, is_utf8, encode_utf8_all, all_scalars}
use Rattle.std.specs.Char.{encode_utf8}
use Rattle.std.proofs.lemmas.Bool.{cases_lt}
use Rattle.std.proofs.lemmas.List.{take_all, take-take, length-take, length-append}
use Rattle.std.proofs.Math.Seq.{take-append_seam, take-append-add}
use Rattle.std.proofs.lemmas.Str.{IsUtf8-nil, IsUtf8-append, IsUtf8-encode, IsUtf8-from_is_utf8}
use Rattle.std.proofs.lemmas.Str.{is_utf8-from_IsUtf8, length-encode, len_utf8_bounds}
use Rattle.name_list.specs.Lists.{IsIllAt}

both : (a b : Bool) → (a && b) ≡ true → (a ≡ true) × (b ≡ true)
both true b e = (refl, e)
both false b e = absurd (cc e)

-- ---- characters are four bytes long at most

-- the text may be cut at b, which lies at most four bytes behind j
abbrev EndsNear : List ℕ → ℕ → Type 0
EndsNear text j = (b : ℕ) × (j < b) × (b ≤ j + 4) × (b ≤ length text) × IsUtf8 (take b text)

ends_near : (cs : List ℕ) (j : ℕ) → all_scalars cs ≡ true → j < length (encode_utf8_all cs)
    → EndsNear (encode_utf8_all cs) j
ends_near [] j s h = absurd (omega (arith, h))
ends_near (c ∷ cs) j s h =
    let first = encode_utf8 c in
    let rest = encode_utf8_all cs in
    let scalar = both _ _ s in
    let long = length-encode c in
    let few = len_utf8_bounds c in
    let most = few.1 in
    let whole = length-append first rest in
    ⊎_elim
    (λ l. (
      length first,
      l,
      omega (arith, long, most),
      omega (arith, whole),
      subst IsUtf8 (sym (take-append_seam first rest)) (IsUtf8-encode c scalar.0),
    ))
    (λ g.
    let near = ends_near cs (j - length first) scalar.1 (omega (arith, h, whole, g)) in
    let behind = near.1 in
    let close = near.2 in
    let inside = near.3 in (
      length first + near.0,
      omega (arith, behind, g),
      omega (arith, close, g),
      omega (arith, inside, whole),
      subst IsUtf8 (sym (take-append-add first rest near.0))
          (IsUtf8-append first (take near.0 rest) (IsUtf8-encode c scalar.0) near.4),
    ))
    (cases_lt j (length first))

text_ends_near : (text : List ℕ) (j : ℕ) → IsUtf8 text → j < length text → EndsNear text j
text_ends_near text j u h = subst (λ xs. EndsNear xs j) u.1.1
    (ends_near u.0 j u.1.0 (subst (λ (xs : List ℕ). j < length xs) (sym u.1.1) h))

-- ---- the longest front that is text

abbrev Longest : List ℕ → ℕ → Type 0
Longest bs n = (v : ℕ) × (v ≤ n) × IsUtf8 (take v bs)
    × ((m : ℕ) → v < m → m ≤ n → ¬ (IsUtf8 (take m bs)))

longer : (bs : List ℕ) (n : ℕ) (b : Bool) → is_utf8 (take (suc n) bs) ≡ b
    → Longest bs n → Longest bs (suc n)
longer bs n true e rest =
    (suc n, omega arith, IsUtf8-from_is_utf8 _ e, λ m a b u. absurd (omega (arith, a, b)))
longer bs n false e rest = (
  rest.0,
  (let l = rest.1 in omega (arith, l)),
  rest.2,
  λ m a b u. ⊎_elim
      (λ l. rest.3 m a (omega (arith, l)) u)
      (λ g.
      let last : m ≡ suc n = omega (arith, g, b) in
      absurd (cc (sym e ∙ ap (λ k. is_utf8 (take k bs)) (sym last) ∙ is_utf8-from_IsUtf8 _ u)))
      (cases_lt m (suc n)),
)

longest : (bs : List ℕ) (n : ℕ) → Longest bs n
longest bs zero = (0, omega arith, IsUtf8-nil, λ m a b u. absurd (omega (arith, a, b)))
longest bs (suc n) = longer bs n (is_utf8 (take (suc n) bs)) refl (longest bs n)

-- each list is a text, or is ill-formed somewhere
pub ill_or_text : (bs : List ℕ) → (ill : Option ℕ) × IsIllAt bs ill
ill_or_text bs =
    let front = longest bs (length bs) in
    let most = front.1 in
    ⊎_elim
    (λ l. (
      Some front.0,
      record {
        short = l;
        front = front.2;
        longest = λ m a u. ⊎_elim
            (λ s. front.3 m a (omega (arith, s)) u)
            (λ g. front.3 (length bs) l (omega arith)
            (subst IsUtf8 (take_all m bs g ∙ sym (take_all (length bs) bs (omega arith))) u))
            (cases_lt m (length bs));
      },
    ))
    (λ g. (None, subst IsUtf8 (take_all front.0 bs g) front.2))
    (cases_lt front.0 (length bs))

-- ---- fronts

module _ (text : List ℕ) (n : ℕ) where
  cut_again : (b k : ℕ) → b ≤ k → b ≤ n → take b (take k text) ≡ take b (take n text)
  cut_again b k l h = take-take b k text l ∙ sym (take-take b n text h)

  -- the front is ill-formed where four bytes more are there: so is the list
  pub ill_front : (m : ℕ) → m + 4 ≤ n → IsValidUpTo (take n text) m → IsValidUpTo text m
  ill_front m room v =
      let short = v.short in
      let size = length-take n text in
      let below : m < length text = omega (arith, short, size) in
      record {
        short = below;
        front = subst IsUtf8 (take-take m n text (omega (arith, room))) v.front;
        longest = λ k more u.
            let long = length-take k text in
            let near = text_ends_near (take k text) m u (omega (arith, long, below, more)) in
            let close = near.2 in
            let inside = near.3 in
            v.longest near.0 near.1 (subst IsUtf8
            (cut_again near.0 k (omega (arith, inside, long)) (omega (arith, close, room))) near.4);
      }

  -- the front is text: the list isn't ill-formed in it
  pub after_text : (m : ℕ) → IsUtf8 (take n text) → IsValidUpTo text m → n ≤ m
  after_text m u v = ⊎_elim (λ l. absurd (v.longest n l u)) (λ g. g) (cases_lt m n)

  -- the front is ill-formed: the list isn't before
  pub not_before : (a m : ℕ) → IsValidUpTo (take n text) a → IsValidUpTo text m → a ≤ m
  not_before a m v w =
      let short = v.short in
      let size = length-take n text in
      ⊎_elim
      (λ l. absurd (w.longest a l (subst IsUtf8
      (take-take a n text (omega (arith, short, size))) v.front)))
      (λ g. g) (cases_lt m a)
