-- The words of a definition add no more nodes than are counted.
use Rattle.std.proofs.Common.{◌≡◌, ℕ, ◌≤◌, List, [], ◌∷◌, ◌++◌, Some, None, true, refl, ap, ◌∙◌}
use Rattle.std.proofs.Common.{subst, arith, append_assoc}
use Rattle.std.specs.Str.{bytes_eq}
use Rattle.script_words.specs.declared.class.Spelled.TheVariants as spelled
use Rattle.script_words.specs.declared.class.Symbol.TheVariants as s
use Rattle.script_words.specs.Words.{Word, rounding, sign}
use Rattle.script_words.specs.Named.{nothing, pending}
use Rattle.script_shape.specs.declared.due.Due.{Due}
use Rattle.script_shape.specs.declared.due.Due.TheVariants as d
use Rattle.script_shape.specs.Expressions.{AnyName, plain, operator, Whole, natural, opposite}
use Rattle.script_shape.specs.Expressions.{Operator, fixed, int, Expr}
use Rattle.script_shape.specs.Tree.{How, exactly, rounded_by, rounded_apart, rounded_joined}
use Rattle.script_shape.specs.Tree.{Definition, names_operator, names_value}
use Rattle.script_shape.specs.Roles.{Leaf, at, name_leaves, whole_leaves, operator_leaves}
use Rattle.script_shape.specs.Roles.{how_leaves, expr_leaves, definition_leaves}
use Rattle.script_shape.proofs.Inner.{EachRole, IsInner, each_of_both, each_as, digits_roles}
use Rattle.script_shape.proofs.Inner.{special_roles, operator_rest, operator_roles, expr_inner}
use Rattle.script_judge.specs.Counts.{one_if}
use Rattle.script_judge.specs.Names.{Name, is_among, with_some}
use Rattle.script_judge.specs.Numbers.{Notes}
use Rattle.script_judge.specs.Judge.{Seen, seen_after}
use Rattle.script_nodes.specs.Known.{Known}
use Rattle.script_nodes.specs.Operators.{rounding_of}
use Rattle.script_nodes.specs.Values.{expr_value}
use Rattle.script_nodes.specs.Definitions.{name_text, rounding_by, with_value, with_operator}
use Rattle.script_nodes.specs.Definitions.{definition_value}
use Rattle.script_nodes.specs.ReadingLaw.{ReadsTrees}
use Rattle.script_grammar.proofs.Marks.{AllFree, Marked, IsLow, IsOpen, IsFreeTo, nothing_words}
use Rattle.script_grammar.proofs.Marks.{pending_words, free_both}
use Rattle.script_grammar.proofs.Kept.{IsMore, IsKept}
use Rattle.script_grammar.proofs.Sizes.{size, value_size, operator_size}
use Rattle.script_grammar.proofs.Weights.{own}
use Rattle.script_grammar.proofs.Passing.{Passes, passes_both, passes_kept, IsStill, passes_quiet}
use Rattle.script_grammar.proofs.ExpressionCounts.{expr_counts}
use Rattle.script_grammar.proofs.There.{or_more}

-- no definition is being read, and there are no more nodes than may be
pub record IsBetween (ops : List Name) (seen : Seen) (k : Known) : Type 0 where
  pub pending : seen.names.pending ≡ None
  pub within : size ops seen.names.known k ≤ seen.counts.nodes

-- ---- names

record IsNamed (text : Name) (seen last : Seen) : Type 0 where
  known : last.names.known ≡ seen.names.known
  pending : last.names.pending ≡ Some text
  defined : last.names.defined ≡ seen.names.defined
  more : seen.counts.nodes ≤ last.counts.nodes

value_named : (n : AnyName) (seen last : Seen) → Passes seen (name_leaves d.Script n) last
    → IsNamed (name_text n) seen last
value_named (plain k t) seen last p = subst (IsNamed t seen) p.3
    (record { known = refl; pending = refl; defined = refl; more = omega arith })
value_named (operator k t) seen last p = subst (IsNamed t seen) p.3
    (record { known = refl; pending = refl; defined = refl; more = omega arith })

operator_named_so : (n : AnyName) (seen last : Seen) → Passes seen (name_leaves d.NewName n) last
    → IsNamed (name_text n) seen last
operator_named_so (plain k t) seen last p = subst (IsNamed t seen) p.3
    (record { known = refl; pending = refl; defined = refl; more = omega arith })
operator_named_so (operator k t) seen last p = subst (IsNamed t seen) p.3
    (record { known = refl; pending = refl; defined = refl; more = omega arith })

-- ---- operators

whole_still : (l : Whole) → EachRole IsStill (whole_leaves l)
whole_still (natural n) = digits_roles IsStill d.Whole n tt
whole_still (opposite n) = (tt, digits_roles IsStill d.WholeDigits n tt)

rest_still : (o : Operator) → EachRole IsStill (operator_rest o)
rest_still (fixed l x) = (
  tt,
  each_of_both IsStill (whole_leaves l) _ (whole_still l)
      (tt, special_roles IsStill d.Direction spelled.Direction x tt),
)
rest_still (int x) = (tt, special_roles IsStill d.Direction spelled.Direction x tt)

operator_still : (o : Operator) → EachRole IsStill (operator_leaves d.Operator o)
operator_still (fixed l x) = (tt, rest_still (fixed l x))
operator_still (int x) = (tt, rest_still (int x))

-- ---- what rounds the operations

record IsRounded (n : ℕ) (seen last : Seen) : Type 0 where
  known : last.names.known ≡ seen.names.known
  pending : last.names.pending ≡ seen.names.pending
  rounds : n ≤ one_if last.counts.rounds
  more : seen.counts.nodes ≤ last.counts.nodes

-- an operator's first word, and the others
then_quiet : (v : Notes) (seen last : Seen) (w : Word) (ls : List Leaf)
    → (seen_after v seen d.DefinedBy w).counts.rounds ≡ true → EachRole IsStill ls
    → Passes (seen_after v seen d.DefinedBy w) ls last → IsRounded 1 seen last
then_quiet v seen last w ls e h p =
    let next = seen_after v seen d.DefinedBy w in
    let c = passes_quiet ls next last h p in
    let m = c.more in
    record {
      known = c.known;
      pending = c.pending;
      rounds = omega (arith, ap one_if (c.rounds ∙ e));
      more = omega arith;
    }

operator_rounded : (o : Operator) (behind : List Leaf) (seen last : Seen) → EachRole IsStill behind
    → Passes seen (operator_leaves d.DefinedBy o ++ behind) last → IsRounded 1 seen last
operator_rounded (fixed l x) behind seen last h p =
    then_quiet p.0 seen last (sign s.Fixed) (operator_rest (fixed l x) ++ behind) refl
    (each_of_both IsStill (operator_rest (fixed l x)) behind (rest_still (fixed l x)) h) p.3
operator_rounded (int x) behind seen last h p =
    then_quiet p.0 seen last (sign s.Int) (operator_rest (int x) ++ behind) refl
    (each_of_both IsStill (operator_rest (int x)) behind (rest_still (int x)) h) p.3

how_rounded : (h : How) (k : Known) (seen last : Seen) → Passes seen (how_leaves h) last
    → IsRounded (own (rounding_by k h)) seen last
how_rounded exactly k seen last p = subst (IsRounded 0 seen) p.3
    (record { known = refl; pending = refl; rounds = omega arith; more = omega arith })
how_rounded (rounded_by c t) k seen last p =
    then_quiet p.0 seen last (rounding c t) (at d.Equal (sign s.Equal) ∷ []) refl (tt, tt) p.3
how_rounded (rounded_apart o) k seen last p = operator_rounded o _ seen last (tt, (tt, tt)) p
how_rounded (rounded_joined o) k seen last p = operator_rounded o _ seen last (tt, tt) p

-- ---- the end

record IsEnded (text : Name) (seen last : Seen) : Type 0 where
  known : last.names.known ≡ text ∷ seen.names.known
  pending : last.names.pending ≡ None
  defined : last.names.defined ≡ text ∷ seen.names.defined
  more : seen.counts.nodes ≤ last.counts.nodes

abbrev semicolon : Leaf
semicolon = at d.Semicolon (sign s.Semicolon)

ended_at : (text : Name) (seen last : Seen) → seen.names.pending ≡ Some text
    → Passes seen (semicolon ∷ []) last → IsEnded text seen last
ended_at text seen last h p = subst (IsEnded text seen) p.3 (record {
  known = ap (λ o. with_some o seen.names.known) h;
  pending = refl;
  defined = ap (λ o. with_some o seen.names.defined) h;
  more = omega arith;
})

-- ---- operators' names in the words of a definition

inner_low : (r : Due) → IsInner r → IsLow r
inner_low d.Script h = h
inner_low d.Prop h = h
inner_low r h = tt

inner_open : (r : Due) → IsInner r → IsOpen r
inner_open d.Semicolon h = h
inner_open r h = tt

how_low : (h : How) → EachRole IsLow (how_leaves h)
how_low exactly = (tt, tt)
how_low (rounded_by c t) = (tt, (tt, tt))
how_low (rounded_apart o) = each_of_both IsLow (operator_leaves d.DefinedBy o) _
    (operator_roles IsLow d.DefinedBy o tt inner_low) (tt, (tt, tt))
how_low (rounded_joined o) = each_of_both IsLow (operator_leaves d.DefinedBy o) _
    (operator_roles IsLow d.DefinedBy o tt inner_low) (tt, tt)

-- behind a value's name
abbrev value_tail : How → Expr → List Leaf
value_tail h e = how_leaves h ++ (expr_leaves e ++ (semicolon ∷ []))

tail_low : (h : How) (e : Expr) → EachRole IsLow (value_tail h e)
tail_low h e = each_of_both IsLow (how_leaves h) _ (how_low h) (each_of_both IsLow (expr_leaves e) _
    (each_as IsInner IsLow inner_low (expr_leaves e) (expr_inner e)) (tt, tt))

value_marked : (n : AnyName) (h : How) (e : Expr) (ops : List Name) (rest : List Leaf)
    → Marked ops nothing (definition_leaves (names_value n h e) ++ rest)
    → IsFreeTo ops (value_tail h e) rest nothing
value_marked (plain k t) h e ops rest m = nothing_words ops (value_tail h e) rest (tail_low h e) m.2
value_marked (operator k t) h e ops rest m =
    nothing_words ops (value_tail h e) rest (tail_low h e) m.2

module _ (t : Name) (o : Operator) (ops : List Name) (rest : List Leaf) where
  operator_ends : Marked ops (pending t)
      ((operator_leaves d.Operator o ++ (at d.Greater (sign s.Greater) ∷ (semicolon ∷ []))) ++ rest)
      → Marked (t ∷ ops) nothing rest
  operator_ends m =
      let ls : List Leaf = at d.Greater (sign s.Greater) ∷ (semicolon ∷ rest) in
      let end = pending_words ops t (operator_leaves d.Operator o) ls (operator_roles IsOpen
      d.Operator o tt inner_open) (subst (Marked ops (pending t)) (append_assoc
      (operator_leaves d.Operator o) (at d.Greater (sign s.Greater) ∷ (semicolon ∷ [])) rest) m) in
      end.2.2

operator_marked : (n : AnyName) (o : Operator) (ops : List Name) (rest : List Leaf)
    → Marked ops nothing (definition_leaves (names_operator n o) ++ rest)
    → Marked (name_text n ∷ ops) nothing rest
operator_marked (plain k t) o ops rest m = operator_ends t o ops rest m.2.2.2
operator_marked (operator k t) o ops rest m = operator_ends t o ops rest m.2.2.2

-- ---- definitions

module _ (reads : ReadsTrees) (ops : List Name) (k : Known) (seen last : Seen)
    (between : IsBetween ops seen k) where
  value_counts : (n : AnyName) (h : How) (e : Expr)
      → AllFree ops (expr_leaves e) → Passes seen (definition_leaves (names_value n h e)) last
      → IsBetween ops last (definition_value (names_value n h e) k)
  value_counts n h e f p =
      let text = name_text n in
      let q = rounding_by k h in
      let first = passes_both (name_leaves d.Script n) _ seen last p in
      let name = value_named n seen first.0 first.1 in
      let second = passes_both (how_leaves h) _ first.0 last first.2 in
      let how = how_rounded h k first.0 second.0 second.1 in
      let third = passes_both (expr_leaves e) _ second.0 last second.2 in
      let t0 = between.within in
      let t1 = name.more in
      let t2 = how.more in
      let start : size ops second.0.names.known k ≤ second.0.counts.nodes =
      omega (arith, ap (λ names. size ops names k) (how.known ∙ name.known)) in
      let value = expr_counts reads q ops e k second.0 third.0 f third.1 how.rounds start in
      let end = ended_at text third.0 last (value.pending ∙ how.pending ∙ name.pending) third.2 in
      let t3 = value.within in
      let t4 = end.more in
      let t5 = value_size ops third.0.names.known text (expr_value q e k) in
      record {
        pending = end.pending;
        within = omega
            (arith, ap (λ names. size ops names (with_value text (expr_value q e k))) end.known);
      }

  -- the operator's name is defined
  record IsOperator (text : Name) (o : Operator) : Type 0 where
    within : IsBetween (text ∷ ops) last (with_operator text (rounding_of o) k)
    defined : last.names.defined ≡ text ∷ seen.names.defined

  operator_counts : (n : AnyName) (o : Operator)
      → Passes seen (definition_leaves (names_operator n o)) last → IsOperator (name_text n) o
  operator_counts n o p =
      let text = name_text n in
      let begun = seen_after p.0 seen d.Script (sign s.At) in
      let first = passes_both (name_leaves d.NewName n) _ begun last p.3 in
      let name = operator_named_so n begun first.0 first.1 in
      let equal = first.2 in
      let opened = seen_after equal.0 first.0 d.Equal (sign s.Equal) in
      let second = passes_both (operator_leaves d.Operator o) _ opened last equal.3 in
      let quiet = passes_quiet (operator_leaves d.Operator o) opened second.0
      (operator_still o) second.1 in
      let greater = second.2 in
      let closed = seen_after greater.0 second.0 d.Greater (sign s.Greater) in
      let end = ended_at text closed last (quiet.pending ∙ name.pending) greater.3 in
      let t0 = between.within in
      let t1 = name.more in
      let t2 = quiet.more in
      let t3 = end.more in
      let t4 = operator_size ops closed.names.known text (rounding_of o) k in
      record {
        within = record {
          pending = end.pending;
          within = omega (
            arith,
            ap (λ names. size (text ∷ ops) names (with_operator text (rounding_of o) k)) end.known,
            ap (λ names. size ops names k) (quiet.known ∙ name.known),
          );
        };
        defined = end.defined ∙ ap (λ names. text ∷ names) (quiet.defined ∙ name.defined);
      }

-- what stands behind a definition, with the names of operators
pub record IsDefined (ops : List Name) (rest : List Leaf) (last : Seen) (k : Known) : Type 0 where
  pub between : IsBetween ops last k
  pub kept : IsKept ops last
  pub marked : Marked ops nothing rest

operators_more : (ops old new : List Name) (text : Name) → IsMore ops old → new ≡ text ∷ old
    → IsMore (text ∷ ops) new
operators_more ops old new text more e n h = ap (λ names. is_among names n) e
    ∙ or_more (bytes_eq text n) (is_among ops n) (is_among old n) (more n) h

pub definition_counts : ReadsTrees
    → (x : Definition) (rest : List Leaf) (ops : List Name) (k : Known) (seen last : Seen)
    → Marked ops nothing (definition_leaves x ++ rest) → Passes seen (definition_leaves x) last
    → IsKept ops seen → IsBetween ops seen k
    → (new : List Name) × IsDefined new rest last (definition_value x k)
definition_counts reads (names_operator n o) rest ops k seen last m p kept b =
    let text = name_text n in
    let counted = operator_counts reads ops k seen last b n o p in
    let old = passes_kept ops (definition_leaves (names_operator n o)) seen last p kept in (
      text ∷ ops,
      record {
        between = counted.within;
        kept = record {
          operators = operators_more ops seen.names.defined last.names.defined text
              kept.operators counted.defined;
          cases = old.cases;
          nodes = old.nodes;
        };
        marked = operator_marked n o ops rest m;
      },
    )
definition_counts reads (names_value n h e) rest ops k seen last m p kept b =
    let marked = value_marked n h e ops rest m in
    let behind = free_both ops (how_leaves h) (expr_leaves e ++ (semicolon ∷ [])) marked.free in
    let free = free_both ops (expr_leaves e) (semicolon ∷ []) behind.1 in (
      ops,
      record {
        between = value_counts reads ops k seen last b n h e free.0 p;
        kept = passes_kept ops (definition_leaves (names_value n h e)) seen last p kept;
        marked = marked.rest;
      },
    )
