-- The lexer's loops, a turn at a time.
use Rattle.std.proofs.Common.{◌≡◌, ℕ, ◌+◌, ◌<◌, ◌≤◌, false, List, [], ◌∷◌, ◌++◌, length, drop}
use Rattle.std.proofs.Common.{Option, Some, None, sym, ap, ◌∙◌, subst, arith, append_assoc}
use Rattle.std.proofs.Common.{append-nil, length-append, length-drop}
use Rattle.std.specs.List.{All}
use Rattle.std.proofs.lemmas.List.{drop-drop}
use Rattle.std.proofs.lemmas.List.Elements.{All-nil, All-push}
use Rattle.std.proofs.Math.ListN.{drop_of_length-le}
use Rattle.script_words.specs.Lex.{blank_len}
use Rattle.fixprog.specs.declared.token.Kind.{Kind}
use Rattle.fixprog.specs.declared.token.ProgramToken.{ProgramToken}
use Rattle.fixprog.specs.Lex.{front, IsWithin, Lexes, ends, bad, token}

-- The tokens so far, and those of the rest, are those of the whole text.
pub record LexedTo (text : List ℕ) (at : ℕ) (found : List ProgramToken) : Type 0 where
  pub within : at ≤ length text
  pub inside : All (IsWithin text) found
  pub few : length found ≤ at
  pub rest : (more : List ProgramToken) (end : Option ℕ) → Lexes at (drop at text) more end
      → Lexes 0 text (found ++ more) end

pub lexed_none : (text : List ℕ) → LexedTo text 0 []
lexed_none text = record {
  within = omega arith;
  inside = All-nil (IsWithin text);
  few =
      omega arith;
  rest = λ more end h. h;
}

done : (text : List ℕ) (found : List ProgramToken) (end : Option ℕ) → Lexes 0 text (found ++ []) end
    → Lexes 0 text found end
done text found end h = subst (λ l. Lexes 0 text l end) (append-nil found) h

pub lexed_all : (text : List ℕ) (at : ℕ) (found : List ProgramToken) → LexedTo text at found → at
    + blank_len false (drop at text) ≡ length text → Lexes 0 text found None
lexed_all text at found l e = done text found None
    (l.rest [] None (ends (omega (arith, length-drop at text, l.within))))

pub lexed_bad : (text : List ℕ) (at start : ℕ) (found : List ProgramToken)
    → LexedTo text at found → start
    ≡ at + blank_len false (drop at text) → start < length text → front (drop start text) ≡ None
    → Lexes 0 text found (Some start)
lexed_bad text at start found l e h n =
    subst (λ p. Lexes 0 text found (Some p)) (sym e)
    (done text found _ (l.rest [] _ (bad (omega (arith, length-drop at text))
    (ap front (drop-drop (blank_len false (drop at text)) at text
    ∙ ap (λ k. drop k text) (sym e)) ∙ n))))

module _ (text : List ℕ) (at : ℕ) (found : List ProgramToken) (l : LexedTo text at found) where
  more_at : (blank len : ℕ) (k : Kind) → blank ≡ blank_len false (drop at text)
      → front (drop (at + blank) text) ≡ Some (k, len) → (more : List ProgramToken) (end : Option ℕ)
      → Lexes (at + blank + len) (drop (at + blank + len) text) more end
      → Lexes 0 text ((found ++ (record { kind = k; start = at + blank; end = at + blank + len } ∷
      [])) ++ more) end
  more_at blank len k e h more end r =
      let b = blank_len false (drop at text) in
      let same : at + (b + len) ≡ at + b + len = omega arith in
      let rest : Lexes (at + b + len) (drop (b + len) (drop at text)) more end =
      subst (λ d. Lexes (at + b + len) d more end)
      (sym (drop-drop (b + len) at text ∙ ap (λ k. drop k text) same))
      (subst (λ c. Lexes (at + c + len) (drop (at + c + len) text) more end) e r) in
      let one : Lexes 0 text (found ++ (record { kind = k; start = at + b; end = at + b + len } ∷
      more)) end =
      l.rest _ end (token (ap front (drop-drop b at text ∙ ap (λ c. drop (at + c) text) (sym e))
      ∙ h) rest) in
      subst (λ c. Lexes 0 text ((found ++ (record { kind = k; start = at + c; end = at + c + len }
      ∷ [])) ++ more) end) (sym e)
      (subst (λ ts. Lexes 0 text ts end) (sym (append_assoc found _ more)) one)

  pub lexed_more : (blank len : ℕ) (k : Kind) → 0 < len → blank ≡ blank_len false (drop at text)
      → at + blank + len ≤ length text → front (drop (at + blank) text) ≡ Some (k, len)
      → LexedTo text (at + blank + len) (found
      ++ (record { kind = k; start = at + blank; end = at + blank + len } ∷ []))
  lexed_more blank len k p e h n = record {
    within = h;
    inside = All-push (IsWithin text) found _ l.inside (record {
      ordered = omega arith;
      inside =
          h;
    });
    few = omega (
      arith,
      l.few,
      length-append found (record {
        kind = k;
        start = at + blank;
        end = at
            + blank + len;
      } ∷ []),
    );
    rest = more_at blank len k e n;
  }

pub lexed_end : (text : List ℕ) (at : ℕ) (found : List ProgramToken) → LexedTo text at found
    → length text ≤ at → Lexes 0 text found None
lexed_end text at found l h =
    let none : drop at text ≡ [] = drop_of_length-le text h in
    lexed_all text at found l (ap (λ d. at + blank_len false d) none ∙ omega (arith, l.within))
