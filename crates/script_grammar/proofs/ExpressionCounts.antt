-- The words of an expression add no more nodes than are counted.
use Rattle.std.proofs.Common.{◌≡◌, ℕ, ◌+◌, ◌≤◌, List, [], ◌∷◌, Option, Some, refl, sym, ap, ◌∙◌}
use Rattle.std.proofs.Common.{subst, arith, append-nil}
use Rattle.fx_model.specs.declared.Rounding.{Rounding}
use Rattle.script_words.specs.Words.{Word}
use Rattle.script_shape.specs.declared.due.Due.{Due}
use Rattle.script_shape.specs.declared.due.Due.TheVariants as d
use Rattle.script_shape.specs.Expressions.{Expr}
use Rattle.script_shape.specs.Roles.{Leaf, expr_leaves}
use Rattle.script_shape.proofs.Inner.{EachRole, IsInner, expr_inner}
use Rattle.script_judge.specs.Counts.{one_if, nodes_at}
use Rattle.script_judge.specs.Names.{Name, with_some, operand_name, is_some_apart}
use Rattle.script_judge.specs.Numbers.{Notes}
use Rattle.script_judge.specs.Judge.{Seen, seen_after}
use Rattle.script_nodes.specs.Known.{Known}
use Rattle.script_nodes.specs.Values.{expr_value}
use Rattle.script_nodes.specs.Waits.{Reading, Complete, read, read_all}
use Rattle.script_nodes.specs.ReadingLaw.{ReadsTrees}
use Rattle.script_grammar.proofs.Marks.{AllFree}
use Rattle.script_grammar.proofs.Sizes.{size}
use Rattle.script_grammar.proofs.Weights.{own, total, IsLeft, expr_total, read_total}
use Rattle.script_grammar.proofs.Passing.{Passes}

-- an inner word, which may be a name that joins
record IsNext (seen next : Seen) (r : Due) (w : Word) : Type 0 where
  known : next.names.known ≡ with_some (operand_name r w) seen.names.known
  pending : next.names.pending ≡ seen.names.pending
  rounds : next.counts.rounds ≡ seen.counts.rounds

inner_next : (v : Notes) (seen : Seen) (r : Due) (w : Word) → IsInner r
    → IsNext seen (seen_after v seen r w) r w
inner_next v seen d.Operand w h = record { known = refl; pending = refl; rounds = refl }
inner_next v seen d.Tail w h = record { known = refl; pending = refl; rounds = refl }
inner_next v seen d.OpenParen w h = record { known = refl; pending = refl; rounds = refl }
inner_next v seen d.CloseParen w h = record { known = refl; pending = refl; rounds = refl }
inner_next v seen d.CloseBar w h = record { known = refl; pending = refl; rounds = refl }
inner_next v seen d.Comma w h = record { known = refl; pending = refl; rounds = refl }
inner_next v seen d.Less w h = record { known = refl; pending = refl; rounds = refl }
inner_next v seen d.Whole w h = record { known = refl; pending = refl; rounds = refl }
inner_next v seen d.WholeDigits w h = record { known = refl; pending = refl; rounds = refl }
inner_next v seen d.Direction w h = record { known = refl; pending = refl; rounds = refl }
inner_next v seen d.Greater w h = record { known = refl; pending = refl; rounds = refl }
inner_next v seen _ w h = absurd h

-- what is read so far, behind words that pass
pub record IsCounted (q : Option Rounding) (ops : List Name) (seen last : Seen)
    (r : Reading) : Type 0 where
  pub within : total q ops last.names.known r ≤ last.counts.nodes
  pub pending : last.names.pending ≡ seen.names.pending

inner_counts : (q : Option Rounding) (ops : List Name) (ls : List Leaf)
    (r : Reading) (seen last : Seen) → EachRole IsInner ls → AllFree ops ls → Passes seen ls last
    → own q ≤ one_if seen.counts.rounds → total q ops seen.names.known r ≤ seen.counts.nodes
    → IsCounted q ops seen last (read_all q ls r)
unfolding read_all
inner_counts q ops [] r seen last h f p s t =
    subst (λ x. IsCounted q ops seen x r) p (record { within = t; pending = refl })
inner_counts q ops (l ∷ ls) r seen last h f p s t =
    let next = seen_after p.0 seen l.role l.word in
    let n = inner_next p.0 seen l.role l.word h.0 in
    let new = with_some (operand_name l.role l.word) seen.names.known in
    let now = read q l.role l.word r in
    let a : total q ops new now ≤ total q ops seen.names.known r + nodes_at seen.counts.rounds
    (is_some_apart seen.names.known (operand_name l.role l.word)) l.role l.word =
    read_total q ops seen.counts.rounds s seen.names.known r l.role l.word f.0 in
    let more = inner_counts q ops ls now next last h.1 f.1 p.3 (omega (arith, ap one_if n.rounds))
    (omega (arith, ap (λ names. total q ops names now) n.known)) in
    record { within = more.within; pending = more.pending ∙ n.pending }

pub record IsValued (ops : List Name) (seen last : Seen) (k : Known) : Type 0 where
  pub within : size ops last.names.known k ≤ last.counts.nodes
  pub pending : last.names.pending ≡ seen.names.pending

left_whole : (q : Option Rounding) (e : Expr) (k : Known) (ops names : List Name)
    (n : ℕ) (o : Option Complete) → o ≡ Some (expr_value q e k, []) → IsLeft q ops names o n
    → size ops names (expr_value q e k).0 ≤ n
left_whole q e k ops names n o is h = let a : IsLeft q ops names (Some (expr_value q e k, [])) n =
    subst (λ x. IsLeft q ops names x n) is h in omega arith

pub expr_counts : ReadsTrees → (q : Option Rounding) (ops : List Name) (e : Expr)
    (k : Known) (seen last : Seen) → AllFree ops (expr_leaves e) → Passes seen (expr_leaves e) last
    → own q ≤ one_if seen.counts.rounds → size ops seen.names.known k ≤ seen.counts.nodes
    → IsValued ops seen last (expr_value q e k).0
unfolding read_all
expr_counts reads q ops e k seen last f p s t =
    let r = reads q e [] k in
    let start : Reading = record { known = k; waits = [] } in
    let c = inner_counts q ops (expr_leaves e) start seen last (expr_inner e) f p s (omega arith) in
    let same : read_all q (expr_leaves e) start ≡ r.after =
    ap (λ ls. read_all q ls start) (sym (append-nil (expr_leaves e))) ∙ r.same in
    let there : total q ops last.names.known r.after ≤ last.counts.nodes =
    subst (λ x. total q ops last.names.known x ≤ last.counts.nodes) same c.within in
    let value = left_whole q e k ops last.names.known _ _ r.done
    (expr_total q ops last.names.known r.after r.after.waits) in
    record { within = omega arith; pending = c.pending }
