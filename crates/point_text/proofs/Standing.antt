-- How far a text has been read without a fault.
use Rattle.std.specs.Prelude.{◌≡◌, ℕ, zero, suc, ◌+◌, ◌<◌, List, [], ◌∷◌, ◌++◌, length, take}
use Rattle.std.specs.Prelude.{slice_get, Some, refl}
use Rattle.std.proofs.Common.{sym, ap, ◌∙◌, subst, arith, append_assoc}
use Rattle.std.proofs.lemmas.Option.{none-some}
use Rattle.script_words.specs.declared.lex.Token.{Token}
use Rattle.script_words.specs.Named.{token_text}
use Rattle.script_nodes.specs.Known.{Name}
use Rattle.point_text.specs.Points.{Part, part_of, parts_of}
use Rattle.point_text.proofs.Clean.{IsClean, IsFine, clean_more}
use Rattle.point_text.proofs.Machine.{State, at_name, step, step_of, run, run_append}
use Rattle.point_text.proofs.Starts.{starts}

-- the part that a token is
abbrev pub part_at : List ℕ → Token → Part
part_at text t = part_of t.kind (token_text text t)

-- The tokens before those that are left have no fault, and bring the machine here.
pub record Stands (variables : List Name) (text : List ℕ) (tokens rest : List Token) (s : State) :
    Type 0 where
  pub before : List Token
  pub split : tokens ≡ before ++ rest
  pub clean : IsClean variables (parts_of text before)
  pub runs : run (Some at_name) (parts_of text before) ≡ Some s

pub parts_push : (text : List ℕ) (ts : List Token) (t : Token)
    → parts_of text (ts ++ (t ∷ [])) ≡ parts_of text ts ++ (part_at text t ∷ [])
parts_push text [] t = refl
parts_push text (u ∷ ts) t = ap (λ ps. part_at text u ∷ ps) (parts_push text ts t)

pub parts_append : (text : List ℕ) (ts us : List Token)
    → parts_of text (ts ++ us) ≡ parts_of text ts ++ parts_of text us
parts_append text [] us = refl
parts_append text (t ∷ ts) us = ap (λ ps. part_at text t ∷ ps) (parts_append text ts us)

pub stands_next : (variables : List Name) (text : List ℕ) (tokens ts : List Token) (t : Token)
    (s u : State)
    → (st : Stands variables text tokens (t ∷ ts) s) → step s (part_at text t) ≡ Some u
    → IsFine variables (parts_of text st.before) (part_at text t)
    → (next : Stands variables text tokens ts u) × (next.before ≡ st.before ++ (t ∷ []))
stands_next variables text tokens ts t s u st e f = (
  record {
    before = st.before ++ (t ∷ []);
    split = st.split ∙ sym (append_assoc st.before (t ∷ []) ts);
    clean = subst (IsClean variables) (sym (parts_push text st.before t))
        (clean_more variables (parts_of text st.before) (part_at text t) st.clean f);
    runs = ap (run (Some at_name)) (parts_push text st.before t)
        ∙ run_append (Some at_name) (parts_of text st.before) (part_at text t ∷ [])
        ∙ ap (λ o. step_of o (part_at text t)) st.runs ∙ e;
  },
  refl,
)

-- ---- places of the token in hand

pub length_parts : (text : List ℕ) (ts : List Token) → length (parts_of text ts) ≡ length ts
length_parts text [] = refl
length_parts text (t ∷ ts) = ap (λ n. suc n) (length_parts text ts)

pub part_here : (text : List ℕ) (before ts : List Token) (t : Token)
    → slice_get (parts_of text (before ++ (t ∷ ts))) (length before) ≡ Some (part_at text t)
part_here text [] ts t = refl
part_here text (u ∷ before) ts t = part_here text before ts t

pub start_here : (before ts : List Token) (t : Token)
    → slice_get (starts (before ++ (t ∷ ts))) (length before) ≡ Some t.start
start_here [] ts t = refl
start_here (u ∷ before) ts t = start_here before ts t

-- what stands before it is among the tokens before
pub part_before : (text : List ℕ) (before rest : List Token) (i : ℕ) (p : Part) → i < length before
    → slice_get (parts_of text (before ++ rest)) i ≡ Some p → slice_get (parts_of text before) i
    ≡ Some p
part_before text [] rest i p l h = absurd (omega arith)
part_before text (u ∷ before) rest zero p l h = h
part_before text (u ∷ before) rest (suc i) p l h = part_before text before rest i p (omega arith) h

pub part_in_front : (text : List ℕ) (before rest : List Token) (i : ℕ) (p : Part)
    → slice_get (parts_of text before) i ≡ Some p → slice_get (parts_of text (before ++ rest)) i
    ≡ Some p
part_in_front text [] rest i p h = absurd (none-some _ h)
part_in_front text (u ∷ before) rest zero p h = h
part_in_front text (u ∷ before) rest (suc i) p h = part_in_front text before rest i p h

pub take_front : (text : List ℕ) (before rest : List Token)
    → take (length before) (parts_of text (before ++ rest)) ≡ parts_of text before
take_front text [] rest = refl
take_front text (u ∷ before) rest = ap (λ ps. part_at text u ∷ ps) (take_front text before rest)

pub take_one_more : (text : List ℕ) (before ts : List Token) (t : Token)
    → take (suc (length before)) (parts_of text (before ++ (t ∷ ts)))
    ≡ parts_of text before ++ (part_at text t ∷ [])
take_one_more text [] ts t = refl
take_one_more text (u ∷ before) ts t =
    ap (λ ps. part_at text u ∷ ps) (take_one_more text before ts t)

pub length_split : (before rest : List Token) → length (before ++ rest) ≡ length before
    + length rest
length_split [] rest = omega arith
length_split (u ∷ before) rest = let e = length_split before rest in omega arith

pub start_of : (text : List ℕ) (ts : List Token) (i : ℕ) (p : Part)
    → slice_get (parts_of text ts) i ≡ Some p → (a : ℕ) × (slice_get (starts ts) i ≡ Some a)
start_of text [] i p h = absurd (none-some _ h)
start_of text (t ∷ ts) zero p h = (t.start, refl)
start_of text (t ∷ ts) (suc i) p h = start_of text ts i p h

pub no_start_past : (ts : List Token) (a : ℕ) → slice_get (starts ts) (length ts) ≡ Some a → ⊥
no_start_past [] a h = none-some _ h
no_start_past (t ∷ ts) a h = no_start_past ts a h
