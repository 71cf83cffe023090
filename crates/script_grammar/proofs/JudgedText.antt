-- The words of a text are judged in two portions: up to the `}` of the formula, and behind it.
use Rattle.std.proofs.Common.{◌≡◌, ℕ, zero, suc, ◌+◌, ◌≤◌, ◌<◌, List, [], ◌∷◌, ◌++◌, length, map}
use Rattle.std.proofs.Common.{take, drop, Option, Some, None, Bool, true, false, if◌then◌else◌}
use Rattle.std.proofs.Common.{refl, sym, ap, ◌∙◌, subst, arith, append-nil}
use Rattle.std.specs.Option.{option_map}
use Rattle.std.proofs.lemmas.List.{drop_all, take_all, take-take, length-take-le, take-append-drop}
use Rattle.script_words.specs.declared.lex.Token.{Token}
use Rattle.script_words.specs.Words.{Word}
use Rattle.script_words.specs.Named.{nothing}
use Rattle.script_shape.specs.declared.due.Due.{Due}
use Rattle.script_shape.specs.Tree.{Script, formula, define}
use Rattle.script_shape.specs.Roles.{Leaf, script_leaves, HasRoles, LeavesSpell, leaves_of}
use Rattle.script_cases.specs.Cases.{case_count}
use Rattle.script_nodes.specs.Known.{Known, nothing_known}
use Rattle.script_nodes.specs.Definitions.{definition_value}
use Rattle.script_claims.specs.Claims.{Claims}
use Rattle.script_claims.specs.Reads.{from_claims}
use Rattle.script_judge.specs.declared.refusal.Refusal.{Refusal}
use Rattle.script_judge.specs.declared.fault.Fault.{Fault}
use Rattle.script_judge.specs.declared.formula.Formula.{Formula}
use Rattle.script_judge.specs.Reading.{Reading, IsReadingOf, at_word}
use Rattle.script_judge.specs.First.{refusal_of}
use Rattle.script_judge.specs.Said.{claims_behind}
use Rattle.script_judge.specs.Front.{closes_formula, ended, front_closed, read_front, front_said}
use Rattle.script_judge.specs.Front.{said_in, front_nodes, no_front, front_leaves, ReadsFronts}
use Rattle.script_judge.specs.Judge.{Seen, nothing_seen, Judged, none_refused}
use Rattle.script_judge.specs.Judging.{Passed, IsFirstFault, SplitsNone, HoldsSaid}
use Rattle.script_judge.specs.SplitViews.{said_by}
use Rattle.script_judge.proofs.Faulted.{leaves_take, leaves_length, leaves_front}
use Rattle.script_judge.proofs.FrontsRead.{script_said}
use Rattle.script_judge.proofs.Turns.{judged_behind}
use Rattle.script_grammar.specs.Counted.{known_behind, NodesAreCounted, CasesAreCounted}
use Rattle.script_grammar.specs.Judgement.{formula_end, has_formula, AreRead, IsFormulaOf}
use Rattle.script_grammar.specs.Judgement.{IsPassedFront}
use Rattle.script_grammar.proofs.FrontLeaves.{roles, said_by_front, front_taken, same_end, unsplit}
use Rattle.script_grammar.proofs.FrontLeaves.{alone, alone_leaves, words_taken}

-- ---- leaves of words with their roles

pub roles_kept : (rs : List Due) (ws : List Word) → length rs ≤ length ws
    → roles (leaves_of rs ws) ≡ rs
roles_kept [] ws h = refl
roles_kept (r ∷ rs) [] h = absurd (omega arith)
roles_kept (r ∷ rs) (w ∷ ws) h = ap (λ l. r ∷ l) (roles_kept rs ws (omega arith))

pub leaves_both : (n : ℕ) (rs : List Due) (ws : List Word) → n ≤ length rs
    → leaves_of (take n rs) (take n ws) ≡ take n (leaves_of rs ws)
leaves_both n rs ws h =
    ap (λ k. leaves_of (take n rs) (take k ws)) (sym (length-take-le n rs h))
    ∙ leaves_front (take n rs) ws ∙ leaves_take n rs ws

words_both : (n : ℕ) (rs : List Due) (ws : List Word) → n ≤ length rs
    → map (λ l. l.word) (leaves_of (take n rs) (take n ws)) ≡ take n ws
words_both zero rs ws h = refl
words_both (suc n) [] ws h = absurd (omega arith)
words_both (suc n) (r ∷ rs) [] h = refl
words_both (suc n) (r ∷ rs) (w ∷ ws) h = ap (λ l. w ∷ l) (words_both n rs ws (omega arith))

-- ---- where the formula ends

pub end_within : (rs : List Due) → formula_end rs ≤ length rs
end_within [] = omega arith
end_within (r ∷ rs) = by_test (closes_formula r) (end_within rs)
  where
    by_test : (b : Bool) → formula_end rs ≤ length rs
        → (if b then 1 else suc (formula_end rs)) ≤ suc (length rs)
    by_test true h = omega arith
    by_test false h = omega arith

-- words with no `}`
pub all_open : (rs : List Due) → has_formula rs ≡ false → formula_end rs ≡ length rs
all_open [] e = refl
all_open (r ∷ rs) e = by_test (closes_formula r) e (all_open rs)
  where
    by_test : (b : Bool) → (if b then true else has_formula rs) ≡ false
        → (has_formula rs ≡ false → formula_end rs ≡ length rs)
        → (if b then 1 else suc (formula_end rs)) ≡ suc (length rs)
    by_test true h more = absurd (cc h)
    by_test false h more = ap (λ n. suc n) (more h)

-- ---- the first portion

-- none of its words splits a variable
pub none_splits : (tokens : List Token) (ws : List Word) (rs : List Due) (from end : ℕ)
    → AreRead tokens ws rs → end ≡ formula_end rs → HoldsSaid (leaves_of rs ws) None from end
none_splits tokens ws rs from end h e = λ k a b.
    let tree = h.roles.tree in
    let m = length (take (length rs) ws) in
    let same : take m (script_leaves tree) ≡ leaves_of rs ws = h.roles.roles in
    let kept : roles (take m (script_leaves tree)) ≡ rs =
    ap roles same ∙ roles_kept rs ws h.taken in
    subst (λ ls. SplitsNone (drop k ls)) same
    (unsplit tree m k (subst (λ n. k < n) (e ∙ ap formula_end (sym kept)) b))

pub front_passed : (tokens : List Token) (ws : List Word) (rs : List Due) (n : ℕ) (last : Seen)
    → AreRead tokens ws rs → n ≡ formula_end rs → has_formula rs ≡ true
    → Passed (nothing_seen (said_in (leaves_of rs ws)))
    (take n (leaves_of rs ws)) (drop n (leaves_of rs ws)) last
    → (xs : List Due) (ys : List Word) → xs ≡ take n rs → ys ≡ take n ws
    → IsPassedFront (leaves_of xs ys)
front_passed tokens ws rs n last h e f p xs ys a b =
    let ls = leaves_of rs ws in
    let has = h.roles in
    let tree = has.tree in
    let all = script_leaves tree in
    let m = length (take (length rs) ws) in
    let kept : roles ls ≡ rs = roles_kept rs ws h.taken in
    let closed : has_formula (roles (take m all)) ≡ true =
    ap (λ l. has_formula (roles l)) has.roles ∙ ap has_formula kept ∙ f in
    let same = same_end m all closed in
    let end : n ≡ formula_end (roles all) =
    e ∙ sym (ap formula_end kept) ∙ sym (ap (λ l. formula_end (roles l)) has.roles) ∙ same.0 in
    let few : n ≤ m = subst (λ k. k ≤ m) (sym end) same.1 in
    let within : n ≤ length rs = subst (λ k. k ≤ length rs) (sym e) (end_within rs) in
    let front : take n ls ≡ front_leaves tree =
    ap (take n) (sym has.roles) ∙ take-take n m all few ∙ ap (λ k. take k all) end
    ∙ front_taken tree in
    let both : leaves_of (take n rs) (take n ws) ≡ take n ls = leaves_both n rs ws within in
    let passed : IsPassedFront (leaves_of (take n rs) (take n ws)) = record {
      tree = tree;
      leaves_are = both ∙ front;
      text = h.text;
      tokens = take n tokens;
      words = words_taken h.text nothing [] n tokens ∙ ap (take n) h.words
          ∙ sym (words_both n rs ws within);
      behind = drop n ls;
      last = last;
      passes = subst (λ l. Passed (nothing_seen (said_in (l ++ drop n ls))) l (drop n ls) last)
          (sym both) (subst (λ l. Passed (nothing_seen (said_in l)) (take n ls) (drop n ls) last)
          (sym (take-append-drop n ls)) p);
    } in
    subst (λ y. IsPassedFront (leaves_of xs y)) (sym b)
    (subst (λ x. IsPassedFront (leaves_of x (take n ws))) (sym a) passed)

-- ---- what its formula says

alone_known : (tree : Script) (k : Known)
    → known_behind (alone tree) k ≡ (claims_behind tree k).known
alone_known (formula f h) k = refl
alone_known (define x rest) k = alone_known rest (definition_value x k)

module _ (leaves : List Leaf) (p : IsPassedFront leaves) where
  abbrev claims : Claims
  claims = claims_behind p.tree nothing_known

  pub passed_read : ReadsFronts → read_front leaves no_front ≡ front_closed (from_claims claims)
  passed_read fronts =
      ap (λ l. read_front l no_front) (p.leaves_are ∙ sym (append-nil (front_leaves p.tree)))
      ∙ fronts p.tree []

  pub few_nodes : NodesAreCounted → LeavesSpell → ReadsFronts
      → length (front_nodes (read_front leaves no_front)) ≤ 512
  few_nodes counted spell fronts =
      let tree = alone p.tree in
      let same : leaves ≡ script_leaves tree = p.leaves_are ∙ sym (alone_leaves p.tree) in
      let passes = subst (λ s. Passed (nothing_seen s) (script_leaves tree) p.behind p.last)
      (script_said fronts tree p.behind)
      (subst (λ ls. Passed (nothing_seen (said_in (ls ++ p.behind))) ls p.behind p.last) same
      p.passes) in
      let few = counted p.text p.tokens tree p.behind p.last
      (p.words ∙ ap (map (λ l. l.word)) same ∙ spell tree) passes in
      omega (
        arith,
        few,
        ap (λ (k : Known). length k.nodes) (alone_known p.tree nothing_known),
        ap (λ f. length (front_nodes f)) (passed_read fronts),
      )

  pub few_cases : CasesAreCounted → ReadsFronts → (f : Formula)
      → ended f.nodes f.sides ≡ read_front leaves no_front
      → case_count f.sides.parts.before ≤ 64
  few_cases counted fronts f e =
      let same : ended f.nodes f.sides ≡ front_closed (from_claims claims) =
      e ∙ passed_read fronts in
      let sides : f.sides ≡ claims.sides = cc same in
      let said = said_in (leaves ++ p.behind) in
      let few = counted p.tree nothing_known said p.behind p.last
      (subst (λ ls. Passed (nothing_seen said) ls p.behind p.last) p.leaves_are p.passes) in
      subst (λ s. case_count s.parts.before ≤ 64) (sym sides) few

-- all of the leaves that are read are the formula's
pub whole_formula : (rs : List Due) (ws : List Word) (f : Formula)
    → ended f.nodes f.sides ≡ read_front (leaves_of rs ws) no_front
    → IsFormulaOf (leaves_of rs ws) (length rs) f
whole_formula rs ws f e =
    ap (λ l. read_front l no_front) (sym (leaves_take (length rs) rs ws)
    ∙ ap (λ l. leaves_of l ws) (take_all (length rs) rs (omega arith))) ∙ sym e

-- so are those up to the formula's end
pub formula_at : (rs : List Due) (ws : List Word) (n : ℕ) (f : Formula) → n ≤ length rs
    → (xs : List Due) (ys : List Word) → xs ≡ take n rs → ys ≡ take n ws
    → IsFormulaOf (leaves_of xs ys) (length xs) f → IsFormulaOf (leaves_of rs ws) n f
formula_at rs ws n f h xs ys a b e =
    let front : IsFormulaOf (leaves_of (take n rs) (take n ws)) (length (take n rs)) f =
    subst (λ y. IsFormulaOf (leaves_of (take n rs) y) (length (take n rs)) f) b
    (subst (λ x. IsFormulaOf (leaves_of x ys) (length x) f) a e) in
    let both : leaves_of (take n rs) (take n ws) ≡ take n (leaves_of rs ws) =
    leaves_both n rs ws h in
    ap (λ l. read_front l no_front) (sym (take-take n n (leaves_of rs ws) (omega arith)))
    ∙ ap (λ l. read_front (take n l) no_front) (sym both)
    ∙ ap (λ k. read_front (take k (leaves_of (take n rs) (take n ws))) no_front)
    (sym (length-take-le n rs h)) ∙ front

-- ---- the second portion

pub formula_said : (leaves : List Leaf) (n : ℕ) (f : Formula) → IsFormulaOf leaves n f
    → said_in leaves ≡ Some (said_by f)
formula_said leaves n f e = said_by_front leaves n (said_by f) (ap front_said e)

-- words all of which pass
pub all_judged : (rs : List Due) (ws : List Word) (n : ℕ) (last : Seen) → length rs ≤ length ws
    → length rs ≤ n
    → Passed (nothing_seen (said_in (leaves_of rs ws)))
    (take n (leaves_of rs ws)) (drop n (leaves_of rs ws)) last
    → IsFirstFault (leaves_of rs ws) None
all_judged rs ws n last k l p =
    let ls = leaves_of rs ws in
    let start = nothing_seen (said_in ls) in
    let h : length ls ≤ n = omega (arith, leaves_length rs ws k) in
    let m = length (take n ls) in
    let left : Judged m last (drop n ls) None =
    subst (λ l. Judged m last l None) (sym (drop_all n ls h)) none_refused in
    subst (λ l. Judged 0 start l None) (take-append-drop n ls)
    (judged_behind (take n ls) (drop n ls) p 0 m (omega arith) None left)

-- a text's own
pub read_words : (text : List ℕ) (r : Reading) (rs : List Due) (ts : List Token) (ws : List Word)
    (bs : List Due) → IsReadingOf text r → r.taken ≡ length rs → r.leaves ≡ leaves_of rs r.words
    → length rs ≤ length r.words → ts ≡ r.tokens → ws ≡ r.words → bs ≡ rs → AreRead ts ws bs
read_words text r rs ts ws bs h n l k a b c =
    let has : HasRoles (take (length rs) r.words) (leaves_of rs r.words) =
    subst (HasRoles (take (length rs) r.words)) l
    (subst (λ m. HasRoles (take m r.words) r.leaves) n h.roles) in
    let read : AreRead r.tokens r.words rs =
    record { taken = k; text = text; words = h.words; roles = has } in
    subst (λ x. AreRead ts ws x) (sym c)
    (subst (λ x. AreRead ts x rs) (sym b) (subst (λ x. AreRead x r.words rs) (sym a) read))

same_refusal : (r : Reading) (ts : List Token) → ts ≡ r.tokens → (o : Option Fault)
    → option_map (at_word ts) o ≡ refusal_of r o
same_refusal r ts a None = refl
same_refusal r ts a (Some f) = ap (λ t. Some (at_word t f)) a

-- what is judged of them
pub text_judged : (r : Reading) (rs : List Due) (ts : List Token) (ws : List Word) (bs : List Due)
    (j : Option Refusal) → r.leaves ≡ leaves_of rs r.words → ts ≡ r.tokens → ws ≡ r.words → bs ≡ rs
    → (found : Option Fault) × IsFirstFault (leaves_of bs ws) found
    × (j ≡ option_map (at_word ts) found)
    → (found : Option Fault) × IsFirstFault r.leaves found × (j ≡ refusal_of r found)
text_judged r rs ts ws bs j l a b c h =
    let leaves : leaves_of bs ws ≡ r.leaves =
    ap (λ x. leaves_of x ws) c ∙ ap (leaves_of rs) b ∙ sym l in
    (h.0, subst (λ ls. IsFirstFault ls h.0) leaves h.1, h.2 ∙ same_refusal r ts a h.0)
