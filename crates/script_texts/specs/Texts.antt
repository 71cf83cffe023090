-- Texts that should spell scripts: read up to a byte past their limit, and what is so of them.
use Rattle.std.specs.Prelude.{◌≡◌, ◌⊎◌, ⊤, Option}
use Rattle.script_judge.specs.declared.refusal.Refusal.{Refusal}
use Rattle.script_grammar.specs.Spells.{View, Spells, IsRefused}
use Rattle.whole_texts.specs.Texts.{IsText}
use Rattle.command_runs.specs.Runs.{Bytes, Told}
use Rattle.command_runs.specs.Fates.{OfText}
use Rattle.report.specs.Lines.{refusal_line}

-- ---- what is so of a text
-- What is read of a script's text: its first bytes, up to one past the most that a script may have
-- (2^20), or all.
abbrev pub IsScriptText : Option Bytes → Bytes → Type 0
IsScriptText = IsText 1048577

-- this is so of the script that the text of this name spells
abbrev pub OfScript : Told → Bytes → (View → Type 0) → Type 0
OfScript told name P = OfText told name (λ text. (s : View) × Spells text s × P s)

-- the text spells no script, but is refused, and the line says why
abbrev pub IsRefusedWith : Bytes → Bytes → Type 0
IsRefusedWith text lines = (r : Refusal) × IsRefused text r × (lines ≡ refusal_line r)

-- A script is read, and another file behind it: that only where the script's text spells one.
abbrev pub ReadsBehind : Told → Bytes → Bytes → Bytes → Type 0
ReadsBehind told script other name =
    (name ≡ script) ⊎ ((name ≡ other) × OfScript told script (λ s. ⊤))
