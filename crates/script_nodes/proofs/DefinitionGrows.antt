-- Nodes never go while words are read.
use Rattle.std.proofs.Common.{◌≡◌, ℕ, ◌<◌, ◌≤◌, List, [], ◌∷◌, length, Option, Some, None, IfSome}
use Rattle.std.proofs.Common.{Bool, true, false, if◌then◌else◌, get_or, ◌∙◌, ap, arith, le_refl}
use Rattle.std.proofs.Common.{le_trans}
use Rattle.fx_model.specs.declared.Rounding.{Rounding}
use Rattle.fx_model.specs.declared.ExprId.{ExprId}
use Rattle.fx_model.specs.declared.Node.TheVariants.{Lit, Add, Sub}
use Rattle.script_words.specs.declared.class.Symbol.{Symbol}
use Rattle.script_words.specs.declared.class.Symbol.TheVariants as s
use Rattle.script_words.specs.Words.{Word, name, rounding, literal, sign}
use Rattle.script_shape.specs.declared.due.Due.{Due}
use Rattle.script_shape.specs.declared.due.Due.TheVariants as d
use Rattle.script_shape.specs.Roles.{Leaf, leaves_of}
use Rattle.script_nodes.specs.declared.waits.Waits.{Waits}
use Rattle.script_nodes.specs.declared.waits.Waits.TheVariants as wait
use Rattle.script_nodes.specs.Literals.{literal_of}
use Rattle.script_nodes.specs.Known.{Name, put, named}
use Rattle.script_nodes.specs.Waits.{Reading, Complete, expr_done, term_done, closed, parted}
use Rattle.script_nodes.specs.Waits.{then_operation, term_operation, sign_operand, operand}
use Rattle.script_nodes.specs.Waits.{operation, read}
use Rattle.script_nodes.specs.Defining.{Defining, operator_begun, defined_by, operator_closed}
use Rattle.script_nodes.specs.Defining.{joined, name_joined, define_word, define_all, opens_formula}
use Rattle.script_nodes.specs.Growth.{node_count, EndsGrow, WordsGrow, DefiningGrows}
use Rattle.script_nodes.proofs.Kept.{put_grows}
use Rattle.script_nodes.proofs.Grows.{named_grows, two_grow, factor_grows, closing_grows}
use Rattle.script_nodes.proofs.Grows.{parting_count}

abbrev KnownGrows : Reading → Reading → Type 0
KnownGrows r t = node_count r.known ≤ node_count t.known

-- ---- signs

module _ (q : Option Rounding) (r : Reading) where
  abbrev IsMore : Option Complete → Type 0
  IsMore o = IfSome o (λ c. node_count r.known ≤ node_count c.0.0)

  term_grows : (v : ExprId) (ws : List Waits)
      → node_count r.known ≤ node_count (term_done q r.known v ws).0.0
  term_grows v [] = le_refl (node_count r.known)
  term_grows v (wait.Sum u ∷ ws) = two_grow q r.known (Add u v)
  term_grows v (wait.Difference u ∷ ws) = two_grow q r.known (Sub u v)
  term_grows v (w ∷ ws) = le_refl (node_count r.known)

  expr_grows : (ws : List Waits) → IsMore (expr_done q r ws)
  expr_grows [] = tt
  expr_grows (wait.Term v ∷ ws) = term_grows v ws
  expr_grows (w ∷ ws) = tt

  closed_grows : (o : Option Complete) → IsMore o → KnownGrows r (closed q r o)
  closed_grows None h = le_refl (node_count r.known)
  closed_grows (Some c) h = le_trans h (closing_grows q c.0 c.1)

  parted_grows : (o : Option Complete) → IsMore o → KnownGrows r (parted r o)
  parted_grows None h = le_refl (node_count r.known)
  parted_grows (Some c) h = let e = parting_count c.0 c.1 in omega arith

  then_grows : (w : ExprId → Waits) (o : Option Complete) → IsMore o
      → KnownGrows r (then_operation w r o)
  then_grows w None h = le_refl (node_count r.known)
  then_grows w (Some c) h = h

  term_operation_grows : (w : ExprId → Waits) (ws : List Waits)
      → KnownGrows r (term_operation w r ws)
  term_operation_grows w [] = le_refl (node_count r.known)
  term_operation_grows w (wait.Term v ∷ ws) = le_refl (node_count r.known)
  term_operation_grows w (v ∷ ws) = le_refl (node_count r.known)

  sign_grows : (g : Symbol) → KnownGrows r (sign_operand g r)
  sign_grows s.Minus = le_refl (node_count r.known)
  sign_grows s.OpenParen = le_refl (node_count r.known)
  sign_grows s.Bar = le_refl (node_count r.known)
  sign_grows s.Fixed = le_refl (node_count r.known)
  sign_grows s.Int = le_refl (node_count r.known)
  sign_grows s.Fma = le_refl (node_count r.known)
  sign_grows _ = le_refl (node_count r.known)

  operand_grows : (w : Word) → KnownGrows r (operand q w r)
  operand_grows (literal k text) = le_trans (put_grows r.known (Lit (literal_of text)))
      (factor_grows q r.waits (put r.known (Lit (literal_of text))))
  operand_grows (name k text) =
      le_trans (named_grows r.known text) (factor_grows q r.waits (named r.known text))
  operand_grows (rounding k text) = le_refl (node_count r.known)
  operand_grows (sign g) = sign_grows g

  operation_grows : (w : Word) → KnownGrows r (operation q w r)
  operation_grows (sign s.Plus) = then_grows wait.Sum (expr_done q r r.waits) (expr_grows r.waits)
  operation_grows (sign s.Minus) =
      then_grows wait.Difference (expr_done q r r.waits) (expr_grows r.waits)
  operation_grows (sign s.Star) = term_operation_grows wait.Product r.waits
  operation_grows (sign s.Slash) = term_operation_grows wait.Quotient r.waits
  operation_grows _ = le_refl (node_count r.known)

  read_grows : (role : Due) (w : Word) → KnownGrows r (read q role w r)
  unfolding read
  read_grows d.Operand w = operand_grows w
  read_grows d.Tail w = operation_grows w
  read_grows d.CloseParen w = closed_grows (expr_done q r r.waits) (expr_grows r.waits)
  read_grows d.CloseBar w = closed_grows (expr_done q r r.waits) (expr_grows r.waits)
  read_grows d.Comma w = parted_grows (expr_done q r r.waits) (expr_grows r.waits)
  read_grows d.Whole w = le_refl (node_count r.known)
  read_grows d.WholeDigits w = le_refl (node_count r.known)
  read_grows d.Direction w = le_refl (node_count r.known)
  read_grows d.Greater w = le_refl (node_count r.known)
  read_grows _ w = le_refl (node_count r.known)

pub ends_grow : EndsGrow
ends_grow q r ws = expr_grows q r ws

pub words_grow : WordsGrow
words_grow q r role w = read_grows q r role w

-- ---- definitions

abbrev counted : Defining → ℕ
counted p = node_count p.reading.known

begun_grows : (w : Word) (r : Reading) → KnownGrows r (operator_begun w r)
begun_grows (sign s.Fixed) r = le_refl (node_count r.known)
begun_grows (sign s.Int) r = le_refl (node_count r.known)
begun_grows _ r = le_refl (node_count r.known)

defined_grows : (p : Defining) (w : Word) → counted p ≤ counted (defined_by p w)
defined_grows p (rounding k text) = le_refl (counted p)
defined_grows p (name k text) = le_refl (counted p)
defined_grows p (literal k text) = le_refl (counted p)
defined_grows p (sign g) = begun_grows (sign g) p.reading

closed_operator_grows : (p : Defining) (ws : List Waits)
    → counted p ≤ counted (operator_closed p ws)
closed_operator_grows p [] = le_refl (counted p)
closed_operator_grows p (wait.Operator r ∷ ws) = le_refl (counted p)
closed_operator_grows p (w ∷ ws) = le_refl (counted p)

joined_grows : (q : Option Rounding) (text : Name) (r : Reading) (ws : List Waits)
    → KnownGrows r (joined q text r ws)
joined_grows q text r [] = le_refl (node_count r.known)
joined_grows q text r (wait.Call o ∷ ws) = le_refl (node_count r.known)
joined_grows q text r (wait.Term v ∷ ws) = expr_grows q r (wait.Term v ∷ ws)
joined_grows q text r (w ∷ ws) = le_refl (node_count r.known)

name_joined_grows : (q : Option Rounding) (n : Option Name) (r : Reading)
    → KnownGrows r (name_joined q n r)
name_joined_grows q None r = le_refl (node_count r.known)
name_joined_grows q (Some text) r = joined_grows q text r r.waits

pub word_grows : DefiningGrows
unfolding define_word
word_grows d.Script w p = le_refl (counted p)
word_grows d.NewName w p = le_refl (counted p)
word_grows d.DefinedBy w p = defined_grows p w
word_grows d.Operator w p = begun_grows w p.reading
word_grows d.CloseOperator w p = closed_operator_grows p p.reading.waits
word_grows d.Semicolon w p = name_joined_grows p.rounds p.name p.reading
word_grows r w p = read_grows p.rounds p.reading r w

all_grow : (ls : List Leaf) (p : Defining) → counted p ≤ counted (define_all ls p)
unfolding define_all
all_grow [] p = le_refl (counted p)
all_grow (l ∷ ls) p = by_test (opens_formula l.role l.word)
    (le_trans (word_grows l.role l.word p) (all_grow ls (define_word l.role l.word p)))
  where
    by_test : (b : Bool) → counted p ≤ counted (define_all ls (define_word l.role l.word p))
        → counted p ≤ counted (if b then p else define_all ls (define_word l.role l.word p))
    by_test true h = le_refl (counted p)
    by_test false h = h

-- a list that is full at the first of some words
pub word_past : (rs : List Due) (ws behind : List Word) (r : Due) (w : Word) (p whole : Defining)
    → 1 ≤ length rs → ws ≡ w ∷ behind → opens_formula (get_or rs 0 r) w ≡ false
    → whole ≡ define_all (leaves_of rs ws) p
    → 1024 < counted (define_word (get_or rs 0 r) w p) → 1024 < counted whole
unfolding define_all
word_past [] ws behind r w p whole h k t e f = absurd (omega arith)
word_past (x ∷ rs) ws behind r w p whole h k t e f =
    let later = define_all (leaves_of rs behind) (define_word x w p) in
    let g = all_grow (leaves_of rs behind) (define_word x w p) in
    let same : whole ≡ later =
    e ∙ ap (λ l. define_all (leaves_of (x ∷ rs) l) p) k ∙ ap (λ b. if b then p else later) t in
    omega (arith, ap counted same)
