-- A program's script is refused nowhere.
use Rattle.std.proofs.Common.{◌≡◌, ◌≤◌, ◌^◌, ℕ, true, List, [], ◌∷◌, ◌++◌, length, take, Some, None}
use Rattle.std.proofs.Common.{refl, sym, ap, ◌∙◌, subst, arith, append-nil}
use Rattle.std.specs.Prelude.{slice_get}
use Rattle.std.specs.Str.{IsUtf8}
use Rattle.std.proofs.lemmas.List.{length-map}
use Rattle.std.proofs.lemmas.List.Elements.{All-nil}
use Rattle.std.proofs.Math.Seq.{take-length}
use Rattle.script_words.specs.Words.{Word}
use Rattle.script_words.specs.Named.{IsToken, IsWordsOf}
use Rattle.script_shape.specs.Tree.{Script, script_words}
use Rattle.script_shape.specs.Roles.{script_leaves, HasRoles, LeavesSpell}
use Rattle.script_shape.specs.ShapeLaw.{IsShapeOf}
use Rattle.script_judge.specs.Reading.{Reading, IsReadingOf, fault, fault_at}
use Rattle.script_nodes.specs.Known.{nothing_known}
use Rattle.script_judge.specs.Said.{said_from, Says}
use Rattle.script_judge.specs.Judge.{nothing_seen, Judged}
use Rattle.script_judge.specs.First.{first_of, refusal_of, IsFirstRefusal, read}

none_past : (ws : List Word) → slice_get ws (length ws) ≡ None
none_past [] = refl
none_past (w ∷ ws) = none_past ws

module _ (spell : LeavesSpell) (text : List ℕ) (tree : Script)
    (words : IsWordsOf text (script_words tree))
  where
    abbrev ws : List Word
    ws = script_words tree

    abbrev reading : Reading
    reading = record {
      tokens = words.tokens;
      bad = None;
      words = script_words tree;
      taken = length (script_words tree);
      whole = true;
      leaves = script_leaves tree;
    }

    all_taken : take (length (script_words tree)) (script_words tree) ≡ script_words tree
    all_taken = take-length (script_words tree)

    no_more : script_words tree ≡ take (length (script_words tree)) (script_words tree) ++ []
    no_more = sym (append-nil (take (length (script_words tree)) (script_words tree)) ∙ all_taken)

    shape : IsShapeOf (script_words tree) (length (script_words tree)) true
    shape = record {
      within = omega arith;
      begins = record {
        tree = tree;
        more = [];
        words = no_more;
        spelled = All-nil IsToken;
      };
      stops = λ l. absurd (omega arith);
      whole = λ e. (refl, (tree, refl));
      not_whole = λ e. absurd (cc);
    }

    many : length (script_leaves tree) ≡ length (script_words tree)
    many = sym (length-map (script_leaves tree) (λ l. l.word)) ∙ ap length (spell tree)

    roles : HasRoles (take (length (script_words tree)) (script_words tree)) (script_leaves tree)
    roles = record {
      tree = tree;
      words = ([], no_more);
      roles = ap (λ n. take n (script_leaves tree)) (ap length all_taken ∙ sym many)
          ∙ take-length (script_leaves tree);
    }

    is_reading : IsReadingOf text reading
    is_reading = record {
      lexed = words.lexed;
      words = words.words;
      shape = shape;
      roles = roles;
    }

    pub refused_nowhere : length text ≤ 2 ^ 20 → IsUtf8 text
        → Judged 0 (nothing_seen (Some (said_from tree nothing_known))) (script_leaves tree) None
        → IsFirstRefusal text None
    refused_nowhere short utf8 judged =
        let none : first_of (fault (length text) reading) (refusal_of reading None) ≡ None =
        ap (λ o. first_of (fault_at (length text) reading o) None)
        (none_past (script_words tree)) in
        let says : Says (script_leaves tree) (Some (said_from tree nothing_known)) =
        (tree, [], sym (append-nil (script_leaves tree)), refl) in
        subst (IsFirstRefusal text) none (read {r = reading}
        {said = Some (said_from tree nothing_known)} (short, utf8) is_reading says judged)
