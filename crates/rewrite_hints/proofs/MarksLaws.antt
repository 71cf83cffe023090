-- Laws of what specs/Marks defines.
use Rattle.std.specs.Prelude.{◌≡◌, ℕ, suc, List, [], ◌∷◌, Some, slice_get, length, refl}
use Rattle.std.proofs.Common.{arith, sym, ◌∙◌}
use Rattle.std.proofs.lemmas.Option.{slice_get_within}
use Rattle.fx_model.specs.declared.ExprId.{ExprId}
use Rattle.fx_model.specs.declared.Node.{Node}
use Rattle.pair_closure.proofs.Rising.{one_list}
use Rattle.facts.specs.declared.hint.HintMark.{HintMark}
use Rattle.facts.specs.declared.hint.HintMark.TheVariants.{Checked, Assumed}
use Rattle.facts.specs.declared.hint.HintRow.{HintRow}
use Rattle.facts.proofs.CommonParts.{stands}
use Rattle.script_hints.specs.declared.hint.Hint.{Hint}
use Rattle.rewrite_hints.specs.Rows.{IsRowOf}
use Rattle.rewrite_hints.specs.Marks.{IsMarkOf, IsEachOf, AreMarks, AreRows}

-- ---- there is one list of them
-- lists as long as each other, with the same at each place
same_list : {A : Type 0} (xs ys : List A) → length xs ≡ length ys
    → ((k : ℕ) (x y : A) → slice_get xs k ≡ Some x → slice_get ys k ≡ Some y → x ≡ y) → xs ≡ ys
same_list [] [] e f = refl
same_list [] (y ∷ ys) e f = absurd (omega arith)
same_list (x ∷ xs) [] e f = absurd (omega arith)
same_list (x ∷ xs) (y ∷ ys) e f =
    let head : x ≡ y = f 0 x y refl refl in
    let tail : xs ≡ ys = same_list xs ys (omega arith) (λ k u v a b. f (suc k) u v a b) in
    (λ i. head i ∷ tail i)

-- Where each has one only, there is one list of them.
pub each_is_one : {A B : Type 0} (R : A → B → Type 0) → ((x : A) (y z : B) → R x y → R x z → y ≡ z)
    → (xs : List A) (ys zs : List B) → IsEachOf R xs ys → IsEachOf R xs zs → ys ≡ zs
each_is_one R one xs ys zs a b = same_list ys zs (a.count ∙ sym b.count) (λ k y z e f.
    let within = slice_get_within ys k y e in
    let s = stands xs k (omega (arith, a.count, within)) in
    one s.0 y z (a.each k s.0 y s.1 e) (b.each k s.0 z s.1 f))

one_mark : (nodes : List Node) (h : Hint) (m n : HintMark) → IsMarkOf nodes h m
    → IsMarkOf nodes h n → m ≡ n
one_mark nodes h Checked Checked a b = refl
one_mark nodes h Checked Assumed a b = absurd (b a)
one_mark nodes h Assumed Checked a b = absurd (a b)
one_mark nodes h Assumed Assumed a b = refl

-- Hints have one list of marks.
pub marks_are_one : (nodes : List Node) (hints : List Hint) (marks others : List HintMark)
    → AreMarks nodes hints marks → AreMarks nodes hints others → marks ≡ others
marks_are_one nodes hints marks others a b =
    each_is_one (IsMarkOf nodes) (one_mark nodes) hints marks others a b

-- A hint has one row.
one_row : (nodes : List Node) (h : Hint) (row other : HintRow) → IsRowOf nodes h row
    → IsRowOf nodes h other → row ≡ other
one_row nodes h row other a b =
    let left : row.left ≡ other.left = a.left ∙ sym b.left in
    let right : row.right ≡ other.right = a.right ∙ sym b.right in
    let divisors : row.divisors ≡ other.divisors = one_list (λ (d : ExprId). d.0)
    row.divisors other.divisors a.divisors.rising b.divisors.rising (λ d m. (b.divisors.exactly d).1
    ((a.divisors.exactly d).0 m)) (λ d m. (a.divisors.exactly d).1 ((b.divisors.exactly d).0 m)) in
    let needs : row.needs ≡ other.needs = a.needs ∙ sym b.needs in
    (λ i. record { left = left i; right = right i; divisors = divisors i; needs = needs i })

-- Hints have one list of rows.
pub rows_are_one : (nodes : List Node) (hints : List Hint) (rows others : List HintRow)
    → AreRows nodes hints rows → AreRows nodes hints others → rows ≡ others
rows_are_one nodes hints rows others a b =
    each_is_one (IsRowOf nodes) (one_row nodes) hints rows others a b
