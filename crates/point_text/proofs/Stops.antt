-- Where the reading stops, the text has its first fault.
use Rattle.std.specs.Prelude.{◌≡◌, ◌≢◌, ℕ, suc, ◌+◌, List, [], ◌∷◌, ◌++◌, length, slice_get, Option}
use Rattle.std.specs.Prelude.{Some, None, refl}
use Rattle.std.proofs.Common.{sym, ap, ◌∙◌, subst, inl, inr, arith, append-nil}
use Rattle.std.proofs.lemmas.Option.{none-some, same_Some, slice_get_within}
use Rattle.fx_model.specs.declared.Literal.{Literal}
use Rattle.literal.specs.Normal.{IsReading}
use Rattle.script_words.specs.declared.lex.Token.{Token}
use Rattle.script_words.specs.Lex.{Lexes}
use Rattle.script_nodes.specs.Known.{Name}
use Rattle.point_text.specs.declared.fault.PointKind.{PointKind}
use Rattle.point_text.specs.declared.fault.PointKind.TheVariants as kind
use Rattle.point_text.specs.Points.{Part, name, literal, slash, parts_of, Entry, entries_parts}
use Rattle.point_text.specs.Points.{IsUnread, IsShortText}
use Rattle.point_text.specs.PointFaults.{Reading, IsRead, HasFault, bad_token, unexpected}
use Rattle.point_text.specs.PointFaults.{cut_short, unknown, twice, zero_divisor, literal_limit}
use Rattle.point_text.specs.PointFaults.{missing, IsPointFault, first}
use Rattle.point_text.proofs.Parts.{Has}
use Rattle.point_text.proofs.Machine.{State, at_name, step, run, run_entries}
use Rattle.point_text.proofs.Starts.{starts, start_within, bad_within}
use Rattle.point_text.proofs.Standing.{part_at, Stands, length_parts, part_here, start_here}
use Rattle.point_text.proofs.Standing.{part_in_front, length_split, start_of, no_start_past}
use Rattle.point_text.proofs.Firsts.{IsPast, IsStuck, stopped, gone_past, stopped_first, past_first}
use Rattle.point_text.proofs.Firsts.{IsLeast}

-- a lexing with the tokens split
lexed_split : (text : List ℕ) (bad : Option ℕ) (tokens us : List Token) → tokens ≡ us
    → Lexes 0 text tokens bad → Lexes 0 text us bad
lexed_split text bad tokens us e l = subst (λ ts. Lexes 0 text ts bad) e l

not_all : (before ts : List Token) (t : Token) → length before ≡ length (before ++ (t ∷ ts)) → ⊥
not_all before ts t e = let m = length_split before (t ∷ ts) in omega arith

all_of : (before : List Token) → length before ≡ length (before ++ [])
all_of before = let m = length_split before [] in omega arith

none_past : (before : List Token) (a : ℕ) → slice_get (starts (before ++ [])) (length before)
    ≡ Some a → ⊥
none_past before a h =
    no_start_past before a (ap (λ us. slice_get (starts us) (length before))
    (sym (append-nil before)) ∙ h)

-- ---- a token that doesn't go on

stuck_here : (text : List ℕ) (s : State) (t : Token) (ts : List Token) → step s (part_at text t)
    ≡ None → IsStuck text s (t ∷ ts)
stuck_here text s t ts h u us e = let q : t ≡ u = cc in ap (λ x. step s (part_at text x)) (sym q)
    ∙ h

pub stuck_fault : (variables : List Name) (text : List ℕ) (tokens ts : List Token) (t : Token)
    (bad : Option ℕ) (s : State)
    → IsShortText text → Lexes 0 text tokens bad → Stands variables text tokens (t ∷ ts) s
    → step s (part_at text t) ≡ None
    → IsPointFault variables text (record { kind = kind.Unexpected; at = t.start })
stuck_fault variables text tokens ts t bad s short lexed st h =
    let w = stopped text bad st.before (t ∷ ts) s (lexed_split text bad tokens _ st.split lexed)
    st.runs (stuck_here text s t ts h) in
    let r = w.0 in
    let z = w.1 in
    let place : slice_get (starts r.tokens) r.taken ≡ Some t.start =
    ap (λ us. slice_get (starts us) r.taken) z.tokens
    ∙ ap (slice_get (starts (st.before ++ (t ∷ ts)))) z.taken ∙ start_here st.before ts t in
    let within = start_within 0 text r.tokens r.bad r.lexed r.taken t.start place in
    first short r (unexpected place)
    (stopped_first variables st.before (t ∷ ts) bad r z st.clean kind.Unexpected t.start
    (λ there e f. absurd (not_all st.before ts t e))
    (λ there e. inr (same_Some _ _ (sym (start_here st.before ts t) ∙ e), omega arith))
    (λ e f g. absurd (not_all st.before ts t e))
    (inl (omega (arith, within.1))))

-- ---- the end

stuck_end : (text : List ℕ) (s : State) → IsStuck text s []
stuck_end text s u us e = absurd (cc)

pub end_fault : (variables : List Name) (text : List ℕ) (tokens : List Token) (bad : Option ℕ) (s :
    State)
    → IsShortText text → Lexes 0 text tokens bad → Stands variables text tokens [] s
    → ¬ (s ≡ at_name)
    → bad ≡ None → IsPointFault variables text (record { kind = kind.Unexpected; at = length text })
end_fault variables text tokens bad s short lexed st n b =
    let w = stopped text bad st.before [] s (lexed_split text bad tokens _ st.split lexed) st.runs
    (stuck_end text s) in
    let r = w.0 in
    let z = w.1 in
    let all : r.taken ≡ length r.tokens = z.taken ∙ all_of st.before ∙ sym (ap length z.tokens) in
    let inside : (es : List Entry) → parts_of text r.tokens ≢ entries_parts es =
    λ es e. n (same_Some _ _ (sym st.runs
    ∙ ap (run (Some at_name)) (ap (parts_of text) (sym (append-nil st.before) ∙ sym z.tokens) ∙ e
    ∙ sym (append-nil (entries_parts es)))
    ∙ run_entries es [])) in
    first short r (cut_short all (z.bad ∙ b) inside)
    (stopped_first variables st.before [] bad r z st.clean kind.Unexpected (length text)
    (λ there e f. absurd (none-some _ (sym b ∙ f)))
    (λ there e. absurd (none_past st.before there e))
    (λ e f g. inr (refl, omega arith))
    (inr (refl, omega arith)))

pub bad_fault : (variables : List Name) (text : List ℕ) (tokens : List Token) (bad : Option ℕ) (s :
    State) (at : ℕ)
    → IsShortText text → Lexes 0 text tokens bad → Stands variables text tokens [] s → bad ≡ Some at
    → IsPointFault variables text (record { kind = kind.BadToken; at = at })
bad_fault variables text tokens bad s at short lexed st b =
    let w = stopped text bad st.before [] s (lexed_split text bad tokens _ st.split lexed) st.runs
    (stuck_end text s) in
    let r = w.0 in
    let z = w.1 in
    let all : r.taken ≡ length r.tokens = z.taken ∙ all_of st.before ∙ sym (ap length z.tokens) in
    let within = bad_within 0 text tokens bad lexed at b in
    first short r (bad_token all (z.bad ∙ b))
    (stopped_first variables st.before [] bad r z st.clean kind.BadToken at
    (λ there e f. inr (same_Some _ _ (sym b ∙ f), omega arith))
    (λ there e. absurd (none_past st.before there e))
    (λ e f g. absurd (none-some _ (sym f ∙ b)))
    (inl (omega (arith, within.1))))

-- each entry has ended, and a variable has none
pub missing_fault : (variables : List Name) (text : List ℕ) (tokens : List Token) (bad : Option ℕ)
    (es : List Entry) (k : ℕ) (v : Name)
    → IsShortText text → Lexes 0 text tokens bad → (st : Stands variables text tokens [] at_name)
    → parts_of text st.before ≡ entries_parts es → bad ≡ None → slice_get variables k ≡ Some v
    → ¬ Has (parts_of text st.before) (name v)
    → IsPointFault variables text (record { kind = kind.Missing; at = length text })
missing_fault variables text tokens bad es k v short lexed st parts b there n =
    let w = stopped text bad st.before [] at_name (lexed_split text bad tokens _ st.split lexed)
    st.runs (stuck_end text at_name) in
    let r = w.0 in
    let z = w.1 in
    let none : (i at : ℕ) → ¬ IsRead r i at (name v) =
    λ i at q. n (
      i,
      ap (λ us. slice_get (parts_of text us) i) (sym (append-nil st.before)
          ∙ sym z.tokens) ∙ q.part,
    ) in
    first short r (missing k there none)
    (stopped_first variables st.before [] bad r z st.clean kind.Missing (length text)
    (λ a e f. absurd (none-some _ (sym b ∙ f)))
    (λ a e. absurd (none_past st.before a e))
    (λ e f g. absurd (g es (ap (parts_of text) (append-nil st.before) ∙ parts)))
    (inr (refl, omega arith)))

-- ---- a token that goes on, with a fault

read_here : {text : List ℕ} (before ts : List Token) (t : Token) (bad : Option ℕ) (r : Reading text)
    (p : Part)
    → IsPast before (t ∷ ts) bad r → part_at text t ≡ p → IsRead r (length before) t.start p
read_here {text = text} before ts t bad r p z e = record {
  read = z.taken;
  part = ap (λ us. slice_get (parts_of text us) (length before)) z.tokens
      ∙ part_here text before ts t ∙ ap (λ x. Some x) e;
  start = ap (λ us. slice_get (starts us) (length before)) z.tokens ∙ start_here before ts t;
}

read_before : {text : List ℕ} (before ts : List Token) (t : Token) (bad : Option ℕ) (r :
    Reading text) (p : Part) (j : ℕ)
    → IsPast before (t ∷ ts) bad r → slice_get (parts_of text before) j ≡ Some p
    → (a : ℕ) × IsRead r j a p
read_before {text = text} before ts t bad r p j z h =
    let l = slice_get_within (parts_of text before) j p h in
    let c = length_parts text before in
    let m = z.taken in
    let part : slice_get (parts_of text r.tokens) j ≡ Some p =
    ap (λ us. slice_get (parts_of text us) j) z.tokens ∙ part_in_front text before (t ∷ ts) j p h in
    let a = start_of text r.tokens j p part in
    (a.0, record { read = omega arith; part = part; start = a.1 })

fault_here : (variables : List Name) (text : List ℕ) (tokens ts : List Token) (t : Token) (bad :
    Option ℕ) (s u : State) (k : PointKind)
    → IsShortText text → Lexes 0 text tokens bad → (st : Stands variables text tokens (t ∷ ts) s)
    → step s (part_at text t) ≡ Some u → IsLeast variables text st.before t k
    → ((r : Reading text) → IsPast st.before (t ∷ ts) bad r → HasFault variables r k t.start)
    → IsPointFault variables text (record { kind = k; at = t.start })
fault_here variables text tokens ts t bad s u k short lexed st goes least has =
    let w = gone_past text bad st.before ts t s u (lexed_split text bad tokens _ st.split lexed)
    st.runs goes in
    first short w.0 (has w.0 w.1) (past_first variables st.before ts t bad w.0 w.1 st.clean k least)

pub unknown_fault : (variables : List Name) (text : List ℕ) (tokens ts : List Token) (t : Token)
    (bad : Option ℕ) (v : Name)
    → IsShortText text → Lexes 0 text tokens bad → Stands variables text tokens (t ∷ ts) at_name
    → part_at text t ≡ name v → ((k : ℕ) → slice_get variables k ≢ Some v)
    → IsPointFault variables text (record { kind = kind.Unknown; at = t.start })
unknown_fault variables text tokens ts t bad v short lexed st e n =
    fault_here variables text tokens ts t bad at_name _ kind.Unknown short lexed st
    (ap (step at_name) e)
    (record {
      unknown = λ w p m. omega arith;
      twice = λ w p m. omega arith;
      zero = λ d l p q z. omega arith;
      limit = λ d p q. omega arith;
    })
    (λ r z. unknown (read_here st.before ts t bad r (name v) z e) n)

pub twice_fault : (variables : List Name) (text : List ℕ) (tokens ts : List Token) (t : Token)
    (bad : Option ℕ) (v : Name)
    → IsShortText text → Lexes 0 text tokens bad
    → (st : Stands variables text tokens (t ∷ ts) at_name)
    → part_at text t ≡ name v → Has variables v → Has (parts_of text st.before) (name v)
    → IsPointFault variables text (record { kind = kind.Twice; at = t.start })
twice_fault variables text tokens ts t bad v short lexed st e k h =
    fault_here variables text tokens ts t bad at_name _ kind.Twice short lexed st
    (ap (step at_name) e)
    (record {
      unknown = λ w p m. absurd (let q : name v ≡ name w = sym e ∙ p in let same : v ≡ w = cc in
          m k.0 (k.1 ∙ ap (λ x. Some x) same));
      twice = λ w p m. omega arith;
      zero = λ d l p q z. omega arith;
      limit = λ d p q. omega arith;
    })
    (λ r z.
    let b = read_before st.before ts t bad r (name v) h.0 z h.1 in
    let l = slice_get_within (parts_of text st.before) h.0 (name v) h.1 in
    let c = length_parts text st.before in
    twice (read_here st.before ts t bad r (name v) z e) b.1 (omega arith))

pub limit_fault : (variables : List Name) (text : List ℕ) (tokens ts : List Token) (t : Token)
    (bad : Option ℕ) (s u : State) (d : List ℕ)
    → IsShortText text → Lexes 0 text tokens bad → Stands variables text tokens (t ∷ ts) s
    → part_at text t ≡ literal d → step s (literal d) ≡ Some u → IsUnread d
    → IsPointFault variables text (record { kind = kind.LiteralLimit; at = t.start })
limit_fault variables text tokens ts t bad s u d short lexed st e goes n =
    fault_here variables text tokens ts t bad s u kind.LiteralLimit short lexed st (ap (step s) e
    ∙ goes)
    (record {
      unknown = λ w p m. absurd (let q : literal d ≡ name w = sym e ∙ p in cc);
      twice = λ w p m. absurd (let q : literal d ≡ name w = sym e ∙ p in cc);
      zero = λ c l p q z. absurd (let o : literal d ≡ literal c = sym e ∙ p in let same : c ≡ d =
          cc in n l (subst (λ x. IsReading x l) same q));
      limit = λ c p q. omega arith;
    })
    (λ r z. literal_limit (read_here st.before ts t bad r (literal d) z e) n)

pub zero_fault : (variables : List Name) (text : List ℕ) (tokens ts : List Token) (t : Token) (bad :
    Option ℕ) (s u : State) (d : List ℕ) (l : Literal) (j : ℕ)
    → IsShortText text → Lexes 0 text tokens bad → (st : Stands variables text tokens (t ∷ ts) s)
    → part_at text t ≡ literal d → step s (literal d) ≡ Some u → suc j ≡ length st.before
    → slice_get (parts_of text st.before) j ≡ Some slash → IsReading d l → l.num ≡ 0
    → IsPointFault variables text (record { kind = kind.ZeroDivisor; at = t.start })
zero_fault variables text tokens ts t bad s u d l j short lexed st e goes last h read z =
    fault_here variables text tokens ts t bad s u kind.ZeroDivisor short lexed st (ap (step s) e
    ∙ goes)
    (record {
      unknown = λ w p m. absurd (let q : literal d ≡ name w = sym e ∙ p in cc);
      twice = λ w p m. absurd (let q : literal d ≡ name w = sym e ∙ p in cc);
      zero = λ c m p q o. omega arith;
      limit = λ c p q. omega arith;
    })
    (λ r y.
    let b = read_before st.before ts t bad r slash j y h in
    let k : length st.before ≡ j + 1 = omega arith in
    zero_divisor b.1 (subst (λ n. IsRead r n t.start (literal d)) k
    (read_here st.before ts t bad r (literal d) y e)) read z)
