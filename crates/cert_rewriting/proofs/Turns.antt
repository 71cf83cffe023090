-- One item more of a list that is spelled from the front.
use Rattle.std.specs.Prelude.{◌≡◌, ◌≤◌, ◌+◌, ◌-◌, ◌++◌, ℕ, suc, List, [], ◌∷◌, length, take, drop}
use Rattle.std.specs.Prelude.{Option}
use Rattle.std.specs.List.{AllByRecursion}
use Rattle.std.proofs.Common.{sym, ap, subst, ◌∙◌, get_or, arith}
use Rattle.std.proofs.Math.Seq.{take-length}
use Rattle.cert_bytes.specs.declared.item.Item.{Item}
use Rattle.cert_bytes.specs.declared.item.Item.TheVariants as item
use Rattle.cert_bytes.specs.Certificates.{HasSpelling}
use Rattle.cert_bytes.specs.declared.style.Seen.{Seen}
use Rattle.cert_bytes.specs.declared.style.Style.TheVariants.{Second}
use Rattle.cert_bytes.specs.Spelling.{spelling, spelled_from}
use Rattle.cert_bytes.specs.Styles.{seen_after}
use Rattle.whole_texts.specs.Pieces.{AppendsFront, PassesOn}
use Rattle.cert_rewriting.proofs.Written.{IsWriting, writing_on, writing_front, writing_more}

-- the items behind the first
abbrev pub behind_first : List Item → List Item
behind_first items = take (length items - 1) (drop 1 items)

one_less : (n : ℕ) → suc n - 1 ≡ n
one_less n = omega arith

first_is : (items : List Item) (i : Item) → 1 ≤ length items → i ≡ get_or items 0 i
    → items ≡ i ∷ behind_first items
first_is [] i l e = absurd (omega (arith, l))
first_is (x ∷ items) i l e =
    ap (λ y. y ∷ items) (sym e)
    ∙ ap (λ ys. i ∷ ys) (sym (ap (λ n. take n items) (one_less (length items)) ∙ take-length items))

-- their spellings, and how many there are
pub spelled_later : (items : List Item) → 1 ≤ length items → AllByRecursion HasSpelling items
    → AllByRecursion HasSpelling (behind_first items)
spelled_later [] l h = absurd (omega (arith, l))
spelled_later (x ∷ items) l h = subst (AllByRecursion HasSpelling)
    (sym (ap (λ n. take n items) (one_less (length items)) ∙ take-length items)) h.1

one_fewer : (items : List Item) → 1 ≤ length items → length (behind_first items) + 1 ≡ length items
one_fewer [] l = absurd (omega (arith, l))
one_fewer (x ∷ items) l =
    let same = ap (λ (n : ℕ). length (take n items)) (one_less (length items))
    ∙ ap (λ (xs : List Item). length xs) (take-length items) in omega (arith, same)

one_step : (seen : Seen) (i : Item) → (seen_after seen i).steps ≤ seen.steps + 1
one_step seen (item.Nodes n) = omega arith
one_step seen (item.Node n) = omega arith
one_step seen (item.Marks n) = omega arith
one_step seen (item.Mark m) = omega arith
one_step seen (item.Cases n) = omega arith
one_step seen (item.Step s) = omega arith
one_step seen (item.Cut x ps) = omega arith
one_step seen (item.Leaf refs) = omega arith
one_step seen (item.Dead r) = omega arith
one_step seen item.End = omega arith

one_section : (seen : Seen) (i : Item) → (seen_after seen i).sections ≤ seen.sections + 1
one_section seen (item.Nodes n) = omega arith
one_section seen (item.Node n) = omega arith
one_section seen (item.Marks n) = omega arith
one_section seen (item.Mark m) = omega arith
one_section seen (item.Cases n) = omega arith
one_section seen (item.Step s) = omega arith
one_section seen (item.Cut x ps) = omega arith
one_section seen (item.Leaf refs) = omega arith
one_section seen (item.Dead r) = omega arith
one_section seen item.End = omega arith

pub steps_on : (seen next : Seen) (items : List Item) (i : Item) (n : ℕ) → 1 ≤ length items
    → next ≡ seen_after seen i → seen.steps + length items ≤ n
    → next.steps + length (behind_first items) ≤ n
steps_on seen next items i n l e h =
    let fewer = one_fewer items l in
    let same = ap (λ (s : Seen). s.steps) e in omega (arith, fewer, same, one_step seen i, h)

pub sections_on : (seen next : Seen) (items : List Item) (i : Item) (n : ℕ) → 1 ≤ length items
    → next ≡ seen_after seen i → seen.sections + length items ≤ n
    → next.sections + length (behind_first items) ≤ n
sections_on seen next items i n l e h =
    let fewer = one_fewer items l in
    let same = ap (λ (s : Seen). s.sections) e in omega (arith, fewer, same, one_section seen i, h)

-- what is left begins with what the first one spells
spelled_next : (seen next : Seen) (items : List Item) (i : Item) → 1 ≤ length items
    → i ≡ get_or items 0 i → next ≡ seen_after seen i
    → spelled_from (Second seen) items
    ≡ spelling i (Second seen) ++ spelled_from (Second next) (behind_first items)
spelled_next seen next items i l e n =
    ap (λ xs. spelled_from (Second seen) xs) (first_is items i l e)
    ∙ ap (λ s. spelling i (Second seen) ++ spelled_from (Second s) (behind_first items)) (sym n)

module _ (before now after : Option (List ℕ)) (old waiting all : List ℕ) (seen next : Seen)
    (items : List Item) (i : Item) (some : 1 ≤ length items) (is : i ≡ get_or items 0 i)
    (more : waiting ≡ old ++ spelling i (Second seen)) (then : next ≡ seen_after seen i)
    (h : IsWriting before now old (spelled_from (Second seen) items) all) where
  waits : IsWriting before now waiting (spelled_from (Second next) (behind_first items)) all
  waits = writing_more before now old waiting (spelling i (Second seen))
      (spelled_from (Second next) (behind_first items)) all more
      (subst (λ b. IsWriting before now old b all) (spelled_next seen next items i some is then) h)

  -- what waited was gone on with
  pub turn_on : (left : List ℕ) → PassesOn now after waiting left
      → IsWriting before after left (spelled_from (Second next) (behind_first items)) all
  turn_on left passes = writing_on before now after waiting
      (spelled_from (Second next) (behind_first items)) all left waits passes

  -- a front of it was taken
  pub turn_breaks : AppendsFront now after waiting → AppendsFront before after all
  turn_breaks front = writing_front before now after waiting
      (spelled_from (Second next) (behind_first items)) all waits front
