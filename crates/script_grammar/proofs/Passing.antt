-- Words that the judge lets pass.
use Rattle.std.proofs.Common.{◌≡◌, ℕ, ◌≤◌, List, [], ◌∷◌, ◌++◌, Option, Some, None, refl, sym}
use Rattle.std.proofs.Common.{ap, ◌∙◌, subst, arith, le_refl, le_trans}
use Rattle.script_words.specs.Words.{Word}
use Rattle.script_shape.specs.declared.due.Due.{Due}
use Rattle.script_shape.specs.declared.due.Due.TheVariants as d
use Rattle.script_shape.specs.Roles.{Leaf}
use Rattle.script_shape.proofs.Inner.{EachRole}
use Rattle.script_judge.specs.declared.fault.Fault.{Fault}
use Rattle.script_judge.specs.Names.{Name}
use Rattle.script_judge.specs.Numbers.{Notes}
use Rattle.script_judge.specs.Judge.{Seen, seen_after, refusal_at, Judged, refused, passed}
use Rattle.script_judge.specs.Judging.{Passed, none, more}
use Rattle.script_grammar.proofs.Kept.{IsKept, kept_after}

-- the judge lets the words pass from one place to another
abbrev pub Passes : Seen → List Leaf → Seen → Type 0
Passes seen [] last = seen ≡ last
Passes seen (l ∷ ls) last =
    (v : Notes) × (behind : List Leaf) × (refusal_at v seen l.role l.word behind ≡ None)
    × Passes (seen_after v seen l.role l.word) ls last

pub passes_all : (a : List Leaf) (i : ℕ) (seen : Seen) → Judged i seen a None
    → (last : Seen) × Passes seen a last
passes_all a i seen j = all a j refl
  where
    all : (a : List Leaf) {i : ℕ} {seen : Seen} {found : Option Fault} → Judged i seen a found
        → found ≡ None → (last : Seen) × Passes seen a last
    all [] {i} {seen} j e = (seen, refl)
    all (l ∷ a) (refused t r) e = absurd (cc e)
    all (l ∷ a) (passed {ls = ls} {v = v} t r j) e = let more = all a j e in
        (more.0, (v, ls, r, more.1))

pub passes_both : (a b : List Leaf) (seen last : Seen) → Passes seen (a ++ b) last
    → (mid : Seen) × Passes seen a mid × Passes mid b last
passes_both [] b seen last p = (seen, refl, p)
passes_both (l ∷ a) b seen last p =
    let more = passes_both a b (seen_after p.0 seen l.role l.word) last p.3 in
    (more.0, (p.0, p.1, p.2, more.1), more.2)

-- of leaves that pass with others behind them
pub passes_of : (a b : List Leaf) {seen last : Seen} → Passed seen a b last → Passes seen a last
passes_of [] b none = refl
passes_of (l ∷ a) b (more {v = v} t r p) = (v, a ++ b, r, passes_of a b p)

-- what the formula says stays
pub passes_said : (ls : List Leaf) (seen last : Seen) → Passes seen ls last
    → last.said ≡ seen.said
passes_said [] seen last p = ap (λ (x : Seen). x.said) (sym p)
passes_said (l ∷ ls) seen last p = passes_said ls (seen_after p.0 seen l.role l.word) last p.3

-- what the judge keeps
pub passes_kept : (ops : List Name) (ls : List Leaf) (seen last : Seen) → Passes seen ls last
    → IsKept ops seen → IsKept ops last
passes_kept ops [] seen last p k = subst (IsKept ops) p k
passes_kept ops (l ∷ ls) seen last p k = passes_kept ops ls
    (seen_after p.0 seen l.role l.word) last p.3 (kept_after ops p.0 seen l.role l.word p.1 p.2 k)

-- ---- words that add nothing

-- names and roundings stay, and the count of nodes doesn't go down
pub record IsQuiet (seen last : Seen) : Type 0 where
  pub known : last.names.known ≡ seen.names.known
  pub pending : last.names.pending ≡ seen.names.pending
  pub rounds : last.counts.rounds ≡ seen.counts.rounds
  pub defined : last.names.defined ≡ seen.names.defined
  pub more : seen.counts.nodes ≤ last.counts.nodes

-- what is due where no name is read and nothing begins or ends
abbrev pub IsStill : Due → Type 0
IsStill d.Script = ⊥
IsStill d.NewName = ⊥
IsStill d.DefinedBy = ⊥
IsStill d.Semicolon = ⊥
IsStill d.Operand = ⊥
IsStill r = Unit {0}

one_quiet : (v : Notes) (seen : Seen) (r : Due) (w : Word) → IsStill r
    → IsQuiet seen (seen_after v seen r w)
one_quiet v seen d.Script w h = absurd h
one_quiet v seen d.NewName w h = absurd h
one_quiet v seen d.DefinedBy w h = absurd h
one_quiet v seen d.Semicolon w h = absurd h
one_quiet v seen d.Operand w h = absurd h
one_quiet v seen r w h =
    record { known = refl; pending = refl; rounds = refl; defined = refl; more = omega arith }

pub passes_quiet : (ls : List Leaf) (seen last : Seen) → EachRole IsStill ls
    → Passes seen ls last → IsQuiet seen last
passes_quiet [] seen last h p = subst (IsQuiet seen) p (record {
  known = refl;
  pending = refl;
  rounds = refl;
  defined = refl;
  more = le_refl seen.counts.nodes;
})
passes_quiet (l ∷ ls) seen last h p =
    let next = seen_after p.0 seen l.role l.word in
    let a = one_quiet p.0 seen l.role l.word h.0 in
    let b = passes_quiet ls next last h.1 p.3 in
    record {
      known = b.known ∙ a.known;
      pending = b.pending ∙ a.pending;
      rounds = b.rounds ∙ a.rounds;
      defined = b.defined ∙ a.defined;
      more = le_trans a.more b.more;
    }
