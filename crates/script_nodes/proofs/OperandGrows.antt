-- A list that is full at an operand.
use Rattle.std.proofs.Common.{◌≡◌, ◌<◌, Option, arith, subst, sym}
use Rattle.std.specs.Borrow.{Bor}
use Rattle.fx_model.specs.declared.Rounding.{Rounding}
use Rattle.fx_model.specs.declared.Literal.{Literal}
use Rattle.fx_model.specs.declared.Node.TheVariants.{Lit}
use Rattle.script_words.specs.declared.class.Number.{Number}
use Rattle.script_words.specs.declared.class.Spelled.{Spelled}
use Rattle.script_words.specs.declared.words.Word.{Word as CodeWord}
use Rattle.script_words.specs.declared.words.Word.TheVariants as code
use Rattle.script_words.specs.Named.{word_of}
use Rattle.script_nodes.specs.Literals.{literal_of}
use Rattle.script_nodes.specs.Known.{Name, put, named}
use Rattle.script_nodes.specs.Waits.{Reading, operand}
use Rattle.script_nodes.specs.Growth.{node_count}
use Rattle.script_nodes.proofs.Grows.{factor_grows}

module _ (q : Option Rounding) (r : Reading) (w : CodeWord) where
  pub literal_past : (k : Number) (text : Bor Name) (l : Literal) → w ≡ code.Literal k text
      → l ≡ literal_of text.now → 1024 < node_count (put r.known (Lit l)).0
      → 1024 < node_count (operand q (word_of w) r).known
  literal_past k text l e i h =
      let g = factor_grows q r.waits (put r.known (Lit (literal_of text.now))) in
      let f : 1024 < node_count (put r.known (Lit (literal_of text.now))).0 =
      subst (λ (m : Literal). 1024 < node_count (put r.known (Lit m)).0) i h in
      subst (λ (v : CodeWord). 1024
      < node_count (operand q (word_of v) r).known) (sym e) (omega arith)

  pub name_past : (k : Spelled) (text : Bor Name)
      → w ≡ code.Name k text → 1024 < node_count (named r.known text.now).0
      → 1024 < node_count (operand q (word_of w) r).known
  name_past k text e h =
      let g = factor_grows q r.waits (named r.known text.now) in
      subst (λ (v : CodeWord). 1024
      < node_count (operand q (word_of v) r).known) (sym e) (omega arith)
