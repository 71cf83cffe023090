-- The reading of a text ends at nothing exactly where it is the words of a whole script.
use Rattle.std.proofs.Common.{◌≡◌, ℕ, Bool, true, false, List, [], ◌++◌, length, take, Option, Some}
use Rattle.std.proofs.Common.{None, refl, sym, ap, ◌∙◌, subst, arith, le_refl, append-nil}
use Rattle.std.specs.List.{slice_get}
use Rattle.std.proofs.Math.Seq.{take-length}
use Rattle.std.proofs.lemmas.List.Elements.{All-nil}
use Rattle.std.proofs.lemmas.Option.{slice_get_past}
use Rattle.script_words.specs.Lex.{Lexes}
use Rattle.script_words.specs.Words.{Word}
use Rattle.script_words.specs.Named.{IsToken}
use Rattle.script_shape.specs.Tree.{script_words}
use Rattle.script_shape.specs.Roles.{script_leaves}
use Rattle.script_judge.specs.declared.refusal.Refusal.{Refusal}
use Rattle.script_judge.specs.Reading.{Reading, IsReadingOf, fault_at, fault_at_end, IsFaultOf}
use Rattle.script_judge.specs.Reading.{unread, read, IsScriptText, ReadsScripts}

at_end : (len : ℕ) (bad : Option ℕ) (whole : Bool) → fault_at_end len bad whole ≡ None
    → (bad ≡ None) × (whole ≡ true)
at_end len (Some b) whole e = absurd (cc e)
at_end len None true e = (refl, refl)
at_end len None false e = absurd (cc e)

pub ends : (len : ℕ) (r : Reading) (w : Option Word) → fault_at len r w ≡ None
    → (r.bad ≡ None) × (r.whole ≡ true)
ends len r (Some w) e = absurd (cc e)
ends len r None e = at_end len r.bad r.whole e

whole_text : (text : List ℕ) (o : Option Refusal) → IsFaultOf text o → o ≡ None → IsScriptText text
whole_text text o (unread h) e = absurd (cc e)
whole_text text o (read {r = r} k h) e =
    let end = ends (length text) r (slice_get r.words r.taken) e in
    record {
      readable = k;
      ws = r.words;
      words = record {
        tokens = r.tokens;
        lexed = subst (Lexes 0 text r.tokens) end.0 h.lexed;
        words = h.words;
      };
      script = (h.shape.whole end.1).1;
    }

no_fault : (text : List ℕ) → IsScriptText text → IsFaultOf text None
no_fault text s =
    let n = length s.ws in
    let tree = s.script.0 in
    let front : script_words tree ≡ take n s.ws ++ [] =
    s.script.1 ∙ sym (take-length s.ws) ∙ sym (append-nil (take n s.ws)) in
    let leaves = take (length (take n s.ws)) (script_leaves tree) in
    let r : Reading = record {
      tokens = s.words.tokens;
      bad = None;
      words = s.ws;
      taken = n;
      whole = true;
      leaves = leaves;
    } in
    let reading : IsReadingOf text r = record {
      lexed = s.words.lexed;
      words = s.words.words;
      shape = record {
        within = le_refl n;
        begins = record { tree = tree; more = []; words = front; spelled = All-nil IsToken };
        stops = λ lt. absurd (omega arith);
        whole = λ e. (refl, s.script);
        not_whole = λ e. absurd (cc e);
      };
      roles = record { tree = tree; words = ([], front); roles = refl };
    } in
    subst (IsFaultOf text) (ap (fault_at (length text) r) (slice_get_past s.ws n (le_refl n)))
    (read s.readable reading)

pub reads_scripts : ReadsScripts
reads_scripts text = (λ h. whole_text text None h refl, no_fault text)
