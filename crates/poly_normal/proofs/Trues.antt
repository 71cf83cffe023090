-- How many marked atoms come before a node.
use Rattle.std.specs.Prelude.{◌≡◌, ◌&&◌, ℕ, ◌+◌, ◌<◌, ◌≤◌, Bool, true, false, List, [], ◌∷◌, take}
use Rattle.std.specs.Prelude.{length, slice_index_or, refl}
use Rattle.std.proofs.Common.{arith, sym, ap, ◌∙◌, zero, suc}
use Rattle.std.proofs.lemmas.Bool.{and_from}
use Rattle.fx_model.specs.declared.Node.{Node}
use Rattle.fx_model.specs.declared.Node.TheVariants.{Var}
use Rattle.poly_normal.specs.Parts.{is_atom_node}
use Rattle.poly_normal.specs.Places.{places, trues, count_of}

trues-cons : (b : Bool) (bs : List Bool) → trues (b ∷ bs) ≡ count_of b + trues bs
trues-cons true bs = omega arith
trues-cons false bs = omega arith

-- the place at a node is that of its mark and its kind
pub place_at : (ns : List Node) (bs : List Bool) (i : ℕ)
    → i < length ns → length bs ≡ length ns → slice_index_or (places ns bs) i false
    ≡ (slice_index_or bs i false && is_atom_node (slice_index_or ns i (Var 0)))
place_at [] bs i h e = absurd (omega arith)
place_at (n ∷ ns) [] i h e = absurd (omega arith)
place_at (n ∷ ns) (b ∷ bs) zero h e = refl
place_at (n ∷ ns) (b ∷ bs) (suc i) h e = place_at ns bs i (omega arith) (omega arith)

pub length-places : (ns : List Node) (bs : List Bool) → length bs ≡ length ns
    → length (places ns bs) ≡ length ns
length-places [] bs e = refl
length-places (n ∷ ns) [] e = absurd (omega arith)
length-places (n ∷ ns) (b ∷ bs) e = ap suc (length-places ns bs (omega arith))

pub trues-take : (bs : List Bool) (i : ℕ) → i < length bs
    → trues (take (i + 1) bs) ≡ trues (take i bs) + count_of (slice_index_or bs i false)
trues-take bs i h =
    ap (λ k. trues (take k bs)) (let e : i + 1 ≡ suc i = omega arith in e) ∙ by bs i h
  where
    shifted : (a b c : ℕ) → a + (b + c) ≡ (a + b) + c
    shifted a b c = omega arith

    by : (bs : List Bool) (i : ℕ) → i < length bs
        → trues (take (suc i) bs) ≡ trues (take i bs) + count_of (slice_index_or bs i false)
    by [] i h = absurd (omega arith)
    by (b ∷ bs) zero h =
        trues-cons b [] ∙ (let e : count_of b + 0 ≡ 0 + count_of b = omega arith in e)
    by (b ∷ bs) (suc i) h =
        trues-cons b (take (suc i) bs) ∙ ap (λ k. count_of b + k) (by bs i (omega arith))
        ∙ shifted (count_of b) (trues (take i bs)) (count_of (slice_index_or bs i false))
        ∙ ap (λ k. k + count_of (slice_index_or bs i false)) (sym (trues-cons b (take i bs)))

pub trues-take_at_most : (bs : List Bool) (i : ℕ) → trues (take i bs) ≤ i
trues-take_at_most [] zero = omega arith
trues-take_at_most [] (suc i) = omega arith
trues-take_at_most (b ∷ bs) zero = omega arith
trues-take_at_most (true ∷ bs) (suc i) = let h = trues-take_at_most bs i in omega arith
trues-take_at_most (false ∷ bs) (suc i) = let h = trues-take_at_most bs i in omega arith

pub trues-take_within : (bs : List Bool) (i : ℕ) → trues (take i bs) ≤ trues bs
trues-take_within [] zero = omega arith
trues-take_within [] (suc i) = omega arith
trues-take_within (b ∷ bs) zero = omega arith
trues-take_within (true ∷ bs) (suc i) = let h = trues-take_within bs i in omega arith
trues-take_within (false ∷ bs) (suc i) = trues-take_within bs i

-- before a true there are fewer than all
pub trues-below : (bs : List Bool) (i : ℕ) → i < length bs → slice_index_or bs i false ≡ true
    → trues (take i bs) < trues bs
trues-below bs i h e = let k = trues-take bs i h in let l = trues-take_within bs (i + 1) in
    let m : count_of (slice_index_or bs i false) ≡ 1 = ap count_of e in omega arith

pub place_more : (ns : List Node) (bs : List Bool) (i : ℕ) (b : Bool) → i < length ns
    → length bs ≡ length ns → slice_index_or bs i false ≡ b → trues (take (i + 1) (places ns bs))
    ≡ trues (take i (places ns bs)) + count_of (b && is_atom_node (slice_index_or ns i (Var 0)))
place_more ns bs i b h e m = trues-take (places ns bs) i (let l = length-places ns bs e in
    omega arith) ∙ ap (λ x. trues (take i (places ns bs)) + count_of x) (place_at ns bs i h e
    ∙ ap (λ x. x && is_atom_node (slice_index_or ns i (Var 0))) m)

-- the place of a marked atom is within the width
pub place_below : (ns : List Node) (bs : List Bool) (i : ℕ) → i < length ns → length bs ≡ length ns
    → slice_index_or bs i false ≡ true → is_atom_node (slice_index_or ns i (Var 0)) ≡ true
    → trues (take i (places ns bs)) < trues (places ns bs)
place_below ns bs i h e m a = trues-below (places ns bs) i (let l = length-places ns bs e in
    omega arith) (place_at ns bs i h e
    ∙ and_from (slice_index_or bs i false) (is_atom_node (slice_index_or ns i (Var 0))) m a)

pub width_small : (w : ℕ) (bs : List Bool) (i : ℕ) → w ≡ trues (take i bs) → w ≤ i
width_small w bs i e = let h = trues-take_at_most bs i in omega arith

pub count_small : (n : ℕ) (b : Bool) → n ≡ count_of b → n ≤ 1
count_small n true e = omega arith
count_small n false e = omega arith
