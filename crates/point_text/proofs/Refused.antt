-- What the reading refuses is the first fault.
use Rattle.std.specs.Prelude.{◌≡◌, ◌≢◌, ℕ, zero, suc, ◌<◌, List, [], ◌∷◌, ◌++◌, length, slice_get}
use Rattle.std.specs.Prelude.{Option, Some, None, Bool, true, false, refl}
use Rattle.std.proofs.Common.{sym, ap, ◌∙◌, subst, inl, inr, arith, append-nil}
use Rattle.std.proofs.lemmas.Option.{same_Some, slice_get_within}
use Rattle.fx_model.specs.declared.Literal.{Literal}
use Rattle.script_words.specs.declared.class.Symbol.TheVariants as s
use Rattle.script_words.specs.declared.lex.Token.{Token}
use Rattle.script_words.specs.declared.lex.TokenKind.{TokenKind}
use Rattle.script_words.specs.declared.lex.TokenKind.TheVariants as token
use Rattle.script_words.specs.Lex.{Lexes}
use Rattle.script_words.specs.Named.{token_text}
use Rattle.script_nodes.specs.Known.{Name}
use Rattle.script_nodes.specs.Literals.{ReadsLiterals}
use Rattle.point_values.specs.Rows.{Row}
use Rattle.point_text.specs.declared.fault.PointKind.TheVariants as kind
use Rattle.point_text.specs.declared.fault.PointFault.{PointFault}
use Rattle.point_text.specs.Points.{Part, name, literal, equal, plus, minus, slash, part_of}
use Rattle.point_text.specs.Points.{parts_of, Entry, entries_parts, IsRowOf, IsShortText}
use Rattle.point_text.specs.PointFaults.{IsPointFault, end_of}
use Rattle.point_text.specs.Taken.{IsTaken, IsNameTaken, IsLiteralTaken, HasKind, IsSignTaken}
use Rattle.point_text.specs.Taken.{IsDivisorTaken, IsFirst, StartsAt, IsUnexpected, IsLimited}
use Rattle.point_text.specs.Taken.{IsLiteralRefused, IsZero, IsDivisorRefused, IsRowRefused}
use Rattle.point_text.specs.Taken.{no_equal, no_number, no_divisor, no_semicolon, IsPlaceRefused}
use Rattle.point_text.specs.Gathered.{Gathering, gathered, RowsRefused, no_name, no_place, no_row}
use Rattle.point_text.proofs.Places.{unset_or_set, first_once}
use Rattle.point_text.proofs.Parts.{Has, name_of_entry, has_name}
use Rattle.point_text.proofs.Clean.{IsClean, IsFine, AreSound, entries_clean, fine_sign, fine_name}
use Rattle.point_text.proofs.Clean.{fine_number, fine_divisor}
use Rattle.point_text.proofs.Machine.{State, at_name, at_equal, at_number, behind_sign}
use Rattle.point_text.proofs.Machine.{behind_number, at_divisor, behind_divisor, step, run}
use Rattle.point_text.proofs.Machine.{run_entries}
use Rattle.point_text.proofs.Standing.{part_at, Stands, stands_next, part_here}
use Rattle.point_text.proofs.Stops.{stuck_fault, end_fault, bad_fault, unknown_fault, twice_fault}
use Rattle.point_text.proofs.Stops.{limit_fault, zero_fault}
use Rattle.point_text.proofs.Unmoved.{unnamed, unequal, unnumbered, unnumbered_behind_sign}
use Rattle.point_text.proofs.Unmoved.{unended_number, undivided, unended_divisor}

-- ---- what has been gathered has no fault

same_entry : (es : List Entry) (j k : ℕ) (d e : Entry) → slice_get es j ≡ Some d
    → slice_get es k ≡ Some e → j ≡ k → d ≡ e
same_entry es j k d e h g q = same_Some _ _ (sym h ∙ ap (slice_get es) q ∙ g)

pub gathered_sound : (variables : List Name) (text : List ℕ) (tokens rest : List Token) (rows :
    List (Option Row))
    → (g : Gathering variables text tokens rest rows) → AreSound variables g.entries
gathered_sound variables text tokens rest rows g = record {
  known = λ k e h. let w = g.set k e h in (w.0, w.3.there);
  once = g.once;
  rows = λ k e h.
      let w = g.set k e h in
      let q = g.said w.0 w.1 w.2 in
      let same : q.1.variable ≡ e.variable = same_Some _ _ (sym q.3.there ∙ w.3.there) in
      let d : q.1 ≡ e = same_entry g.entries q.0 k q.1 e q.2 h (g.once q.0 k q.1 e q.2 h same) in
      (w.1, subst (λ x. IsRowOf x w.1) d q.4);
}

pub gathered_stands : ReadsLiterals → (variables : List Name) (text : List ℕ) (tokens rest :
    List Token) (rows : List (Option Row))
    → (g : Gathering variables text tokens rest rows)
    → (st : Stands variables text tokens rest at_name) × (st.before ≡ g.before)
gathered_stands law variables text tokens rest rows g = (
  record {
    before = g.before;
    split = g.split;
    clean = subst (IsClean variables) (sym g.parts)
        (entries_clean law variables g.entries (gathered_sound variables text tokens rest rows g));
    runs = ap (run (Some at_name)) (g.parts ∙ sym (append-nil (entries_parts g.entries)))
        ∙ run_entries g.entries [];
  },
  refl,
)

length_push : (ts : List Token) (t : Token) → length (ts ++ (t ∷ [])) ≡ suc (length ts)
length_push [] t = refl
length_push (u ∷ ts) t = ap (λ n. suc n) (length_push ts t)

-- a row that isn't unset is set
set_row : (rows : List (Option Row)) (i : ℕ) → i < length rows → ¬ (slice_get rows i ≡ Some None)
    → (row : Row) × (slice_get rows i ≡ Some (Some row))
set_row [] i l n = absurd (omega arith)
set_row (None ∷ rows) zero l n = absurd (n refl)
set_row (Some r ∷ rows) zero l n = (r, refl)
set_row (r ∷ rows) (suc i) l n = set_row rows i (omega arith) n

module _ (law : ReadsLiterals) (variables : List Name) (text : List ℕ) (tokens : List Token) (bad :
    Option ℕ) (end f : PointFault)
    (short : IsShortText text) (lexed : Lexes 0 text tokens bad) (is_end : end ≡ end_of text bad)
  where
    Here : List Token → State → Type 0
    Here rest u = Stands variables text tokens rest u

    Fault : PointFault → Type 0
    Fault g = IsPointFault variables text g

    -- ---- the token in hand doesn't go on

    end_told : (o : Option ℕ) (u : State) → bad ≡ o → Here [] u → ¬ (u ≡ at_name)
        → Fault (end_of text o)
    unfolding Here Fault
    end_told None u e st n = end_fault variables text tokens bad u short lexed st n e
    end_told (Some a) u e st n = bad_fault variables text tokens bad u a short lexed st e

    unexpected_told : (rest : List Token) (u : State) → Here rest u → ¬ (u ≡ at_name)
        → IsUnexpected rest end f
        → ((t : Token) (ts : List Token) → rest ≡ t ∷ ts → step u (part_at text t) ≡ None) → Fault f
    unfolding Here Fault
    unexpected_told [] u st n q h = subst (IsPointFault variables text) (sym (q ∙ is_end))
        (end_told bad u refl st n)
    unexpected_told (t ∷ ts) u st n q h = subst (IsPointFault variables text) (sym q)
        (stuck_fault variables text tokens ts t bad u short lexed st (h t ts refl))

    -- the first token isn't of a kind
    not_kind : (k : TokenKind) (rest ts : List Token) (t : Token) → ¬ HasKind k rest → rest ≡ t ∷ ts
        → ¬ (t.kind ≡ k)
    not_kind k [] ts t n e = absurd (cc)
    not_kind k (u ∷ us) ts t n e = let q : u ≡ t = cc in λ h. n (ap (λ (x : Token). x.kind) q ∙ h)

    -- ---- what is taken

    sign_taken : (k : TokenKind) (p : Part) → ((bs : List ℕ) → part_of k bs ≡ p)
        → ((v : Name) → ¬ (p ≡ name v)) → ((d : List ℕ) → ¬ (p ≡ literal d))
        → (u w : State) → step u p ≡ Some w → (rest later : List Token) → IsTaken k rest later
        → Here rest u → Here later w
    unfolding Here
    sign_taken k p is n l u w goes [] later h st = absurd h
    sign_taken k p is n l u w goes (t ∷ ts) later h st =
        let e : part_at text t ≡ p = ap (λ j. part_of j (token_text text t)) h.0
        ∙ is (token_text text t) in
        subst (λ us. Stands variables text tokens us w) h.1
        (stands_next variables text tokens ts t u w st (ap (step u) e ∙ goes)
        (fine_sign variables (parts_of text st.before) (part_at text t) (λ v q. n v (sym e ∙ q))
        (λ d q. l d (sym e ∙ q)))).0

    literal_taken : (u w : State) → ((d : List ℕ) → step u (literal d) ≡ Some w)
        → ¬ (u ≡ at_divisor)
        → (l : Literal)
        → (rest later : List Token) → IsLiteralTaken text rest l later → Here rest u → Here later w
    unfolding Here
    literal_taken u w goes n l [] later h st = absurd h
    literal_taken u w goes n l (t ∷ ts) later h st =
        let e : part_at text t ≡ literal (token_text text t) =
        ap (λ j. part_of j (token_text text t)) h.0 in
        subst (λ us. Stands variables text tokens us w) h.2
        (stands_next variables text tokens ts t u w st (ap (step u) e ∙ goes (token_text text t))
        (subst (IsFine variables (parts_of text st.before)) (sym e)
        (fine_number variables (parts_of text st.before) (token_text text t) l u st.runs n
        h.1))).0

    divisor_taken : (l : Literal) → l.num ≢ 0 → (rest later : List Token)
        → IsLiteralTaken text rest l later
        → Here rest at_divisor → Here later behind_divisor
    unfolding Here
    divisor_taken l n [] later h st = absurd h
    divisor_taken l n (t ∷ ts) later h st =
        let e : part_at text t ≡ literal (token_text text t) =
        ap (λ j. part_of j (token_text text t)) h.0 in
        subst (λ us. Stands variables text tokens us behind_divisor) h.2
        (stands_next variables text tokens ts t at_divisor behind_divisor st
        (ap (step at_divisor) e)
        (subst (IsFine variables (parts_of text st.before)) (sym e)
        (fine_divisor law variables (parts_of text st.before) (token_text text t) l h.1 n))).0

    equal_taken : (rest later : List Token) → IsTaken (token.Sign s.Equal) rest later
        → Here rest at_equal → Here later at_number
    equal_taken = sign_taken (token.Sign s.Equal) equal (λ bs. refl) (λ v e. cc) (λ d e. cc)
        at_equal
        at_number refl

    -- ---- a literal is refused

    limit_told : (u w : State) → ((d : List ℕ) → step u (literal d) ≡ Some w) → (rest : List Token)
        → Here rest u → IsLimited text rest f → Fault f
    unfolding Here Fault
    limit_told u w goes [] st h = absurd h
    limit_told u w goes (t ∷ ts) st h =
        subst (IsPointFault variables text) (sym h.2)
        (limit_fault variables text tokens ts t bad u w (token_text text t) short lexed st
        (ap (λ j. part_of j (token_text text t)) h.0) (goes (token_text text t)) h.1)

    -- a number is refused behind its sign
    behind_sign_told : (rest : List Token) → Here rest behind_sign
        → IsLiteralRefused text rest end f
        → Fault f
    behind_sign_told rest st (inl h) = unexpected_told rest behind_sign st (λ e. cc) h.0
        (λ t ts e. unnumbered_behind_sign t.kind (token_text text t)
        (not_kind token.Literal rest ts t h.1 e))
    behind_sign_told rest st (inr h) = limit_told behind_sign behind_number (λ d. refl) rest st h

    -- a number is refused that has no sign
    number_told : (rest : List Token) → Here rest at_number → ¬ HasKind (token.Sign s.Plus) rest
        → ¬ HasKind (token.Sign s.Minus) rest
        → IsLiteralRefused text rest end f → Fault f
    number_told rest st p m (inl h) = unexpected_told rest at_number st (λ e. cc) h.0
        (λ t ts e. unnumbered t.kind (token_text text t) (not_kind token.Literal rest ts t h.1 e)
        (not_kind (token.Sign s.Plus) rest ts t p e) (not_kind (token.Sign s.Minus) rest ts t m e))
    number_told rest st p m (inr h) = limit_told at_number behind_number (λ d. refl) rest st h

    signed_told : (negative : Bool) (rest later : List Token) → Here rest at_number
        → IsSignTaken rest negative later
        → IsLiteralRefused text later end f → Fault f
    signed_told true rest later st h r =
        behind_sign_told later (sign_taken (token.Sign s.Minus) minus (λ bs. refl) (λ v e. cc)
        (λ d e. cc) at_number behind_sign refl rest later h st) r
    signed_told false rest later st (inl h) r =
        subst (λ us. IsLiteralRefused text us end f → Fault f) h.0 (number_told rest st h.1 h.2) r
    signed_told false rest later st (inr h) r =
        behind_sign_told later (sign_taken (token.Sign s.Plus) plus (λ bs. refl) (λ v e. cc)
        (λ d e. cc) at_number behind_sign refl rest later h st) r

    -- ---- behind a number

    number_taken : (negative : Bool) (l : Literal) (rest mid later : List Token)
        → Here rest at_number
        → IsSignTaken rest negative mid
        → IsLiteralTaken text mid l later → Here later behind_number
    number_taken true l rest mid later st h r =
        literal_taken behind_sign behind_number (λ d. refl) (λ e. cc) l mid later r
        (sign_taken (token.Sign s.Minus) minus (λ bs. refl) (λ v e. cc) (λ d e. cc) at_number
        behind_sign refl rest mid h st)
    number_taken false l rest mid later st (inl h) r =
        literal_taken at_number behind_number (λ d. refl) (λ e. cc) l mid later r
        (subst (λ us. Here us at_number) h.0 st)
    number_taken false l rest mid later st (inr h) r =
        literal_taken behind_sign behind_number (λ d. refl) (λ e. cc) l mid later r
        (sign_taken (token.Sign s.Plus) plus (λ bs. refl) (λ v e. cc) (λ d e. cc) at_number
        behind_sign refl rest mid h st)

    -- a divisor is 0
    zero_told : (t : Token) (ts : List Token) → Here (t ∷ ts) behind_number
        → t.kind ≡ token.Sign s.Slash → IsZero text ts f → Fault f
    unfolding Here Fault
    zero_told t [] st k h = absurd h
    zero_told t (u ∷ us) st k h =
        let e : part_at text t ≡ slash = ap (λ j. part_of j (token_text text t)) k in
        let next = stands_next variables text tokens (u ∷ us) t behind_number at_divisor st
        (ap (step behind_number) e)
        (fine_sign variables (parts_of text st.before) (part_at text t) (λ v q. let o :
        slash ≡ name v = sym e ∙ q in cc) (λ d q. let o : slash ≡ literal d = sym e ∙ q in cc)) in
        let last : suc (length st.before) ≡ length next.0.before =
        sym (ap length next.1 ∙ length_push st.before t) in
        let there : slice_get (parts_of text next.0.before) (length st.before) ≡ Some slash =
        ap (λ us. slice_get (parts_of text us) (length st.before)) next.1
        ∙ part_here text st.before [] t ∙ ap (λ x. Some x) e in
        subst (IsPointFault variables text) (sym h.4)
        (zero_fault variables text tokens us u bad at_divisor behind_divisor (token_text text u) h.0
        (length st.before) short lexed next.0 (ap (λ j. part_of j (token_text text u)) h.1) refl
        last there h.2 h.3)

    divisor_told : (rest : List Token) → Here rest behind_number → IsDivisorRefused text rest end f
        → Fault f
    divisor_told [] st h = absurd h
    divisor_told (t ∷ ts) st h = elim h.1 [
      | inl r ↦ by_literal r
      | inr z ↦ zero_told t ts st h.0 z
    ]
      where
        behind : Here ts at_divisor
        behind = sign_taken (token.Sign s.Slash) slash (λ bs. refl) (λ v e. cc) (λ d e. cc)
            behind_number at_divisor refl (t ∷ ts) ts (h.0, refl) st

        by_literal : IsLiteralRefused text ts end f → Fault f
        by_literal (inl r) = unexpected_told ts at_divisor behind (λ e. cc) r.0
            (λ t us e. undivided t.kind (token_text text t) (not_kind token.Literal ts us t r.1 e))
        by_literal (inr r) = limit_told at_divisor behind_divisor (λ d. refl) ts behind r

    -- no semicolon stands behind a number or a divisor
    semicolon_told : (o : Option Literal) (rest later : List Token) → Here rest behind_number
        → IsDivisorTaken text rest o later
        → IsUnexpected later end f → ¬ HasKind (token.Sign s.Semicolon) later → Fault f
    semicolon_told None rest later st h q n =
        unexpected_told later behind_number (subst (λ us. Here us behind_number) h.0 st) (λ e. cc) q
        (λ t ts e. unended_number t.kind (token_text text t)
        (not_kind (token.Sign s.Slash) later ts t (subst (λ us. ¬ HasKind (token.Sign s.Slash) us)
        h.0 h.1) e)
        (not_kind (token.Sign s.Semicolon) later ts t n e))
    semicolon_told (Some l) rest later st h q n =
        unexpected_told later behind_divisor
        (divisor_taken l h.3 h.0 later h.2 (sign_taken (token.Sign s.Slash) slash (λ bs. refl)
        (λ v e. cc) (λ d e. cc) behind_number at_divisor refl rest h.0 h.1 st))
        (λ e. cc) q (λ t ts e. unended_divisor t.kind (token_text text t)
        (not_kind (token.Sign s.Semicolon) later ts t n e))

    row_told : (rest : List Token) → Here rest at_equal → IsRowRefused text rest end f → Fault f
    row_told rest st (no_equal q n) = unexpected_told rest at_equal st (λ e. cc) q
        (λ t ts e. unequal t.kind (token_text text t) (not_kind (token.Sign s.Equal) rest ts t n e))
    row_told rest st (no_number negative a b te ts r) =
        signed_told negative a b (equal_taken rest a te st) ts r
    row_told rest st (no_divisor negative l a b c te ts tl r) =
        divisor_told c (number_taken negative l a b c (equal_taken rest a te st) ts tl) r
    row_told rest st (no_semicolon negative l o a b c d te ts tl td q n) =
        semicolon_told o c d (number_taken negative l a b c (equal_taken rest a te st) ts tl) td q n

    -- ---- names

    name_told : (rest mid : List Token) (rows : List (Option Row)) (v : Name) (at : ℕ)
        → Gathering variables text tokens rest rows
        → IsNameTaken text rest v mid → StartsAt rest at → IsPlaceRefused variables rows v at f
        → Fault f
    unfolding Fault
    name_told [] mid rows v at g h a r = absurd h
    name_told (t ∷ ts) mid rows v at g h a (inl r) =
        let st = gathered_stands law variables text tokens (t ∷ ts) rows g in
        let e : part_at text t ≡ name v =
        ap (λ j. part_of j (token_text text t)) h.0 ∙ ap name h.1 in
        subst (IsPointFault variables text)
        (sym (r.1 ∙ ap (λ (n : ℕ). let x : PointFault = record { kind = kind.Unknown; at = n } in
        x) a))
        (unknown_fault variables text tokens ts t bad v short lexed st.0 e r.0)
    name_told (t ∷ ts) mid rows v at g h a (inr r) =
        let st = gathered_stands law variables text tokens (t ∷ ts) rows g in
        let e : part_at text t ≡ name v =
        ap (λ j. part_of j (token_text text t)) h.0 ∙ ap name h.1 in
        let w = set_row rows r.0 (let l = slice_get_within variables r.0 v r.1.there in let c =
        g.count in omega arith) r.2 in
        let said = g.said r.0 w.0 w.1 in
        let same : said.1.variable ≡ v = same_Some _ _ (sym said.3.there ∙ r.1.there) in
        let stood : Has (parts_of text st.0.before) (name v) =
        subst (λ ps. Has ps (name v)) (sym (ap (parts_of text) st.1 ∙ g.parts))
        (subst (λ x. Has (entries_parts g.entries) (name x)) same
        (has_name g.entries said.0 said.1 said.2)) in
        subst (IsPointFault variables text)
        (sym (r.3 ∙ ap (λ (n : ℕ). let x : PointFault = record { kind = kind.Twice; at = n } in
        x) a))
        (twice_fault variables text tokens ts t bad v short lexed st.0 e (r.0, r.1.there) stood)

    -- behind a name whose row is due
    name_taken : (rest mid : List Token) (rows : List (Option Row)) (v : Name) (place : ℕ)
        → Gathering variables text tokens rest rows
        → IsNameTaken text rest v mid → IsFirst variables v place → slice_get rows place ≡ Some None
        → Here mid at_equal
    unfolding Here
    name_taken [] mid rows v place g h i n = absurd h
    name_taken (t ∷ ts) mid rows v place g h i n =
        let st = gathered_stands law variables text tokens (t ∷ ts) rows g in
        let e : part_at text t ≡ name v =
        ap (λ j. part_of j (token_text text t)) h.0 ∙ ap name h.1 in
        let fresh : ¬ Has (parts_of text st.0.before) (name v) = λ x.
        let y = name_of_entry g.entries v (subst (λ ps. Has ps (name v)) (ap (parts_of text) st.1
        ∙ g.parts) x) in
        let w = g.set y.0 y.1 y.2 in
        unset_or_set (slice_get rows w.0) w.1
        (ap (slice_get rows) (first_once variables y.1.variable v w.0 place y.3 w.3 i) ∙ n) w.2 in
        subst (λ us. Stands variables text tokens us at_equal) h.2
        (stands_next variables text tokens ts t at_name at_equal st.0 (ap (step at_name) e)
        (subst (IsFine variables (parts_of text st.0.before)) (sym e)
        (fine_name variables (parts_of text st.0.before) v (place, i.there) fresh))).0

    pub refused_told : RowsRefused variables text tokens end f → IsPointFault variables text f
    unfolding Here Fault
    refused_told (no_name [] rows g some q n) = absurd (some refl)
    refused_told (no_name (t ∷ ts) rows (gathered g) some q n) =
        subst (IsPointFault variables text) (sym q)
        (stuck_fault variables text tokens ts t bad at_name short lexed
        (gathered_stands law variables text tokens (t ∷ ts) rows g).0
        (unnamed t.kind (token_text text t) n))
    refused_told (no_place rest mid rows v at (gathered g) h a r) =
        name_told rest mid rows v at g h a r
    refused_told (no_row rest mid rows v place (gathered g) h i n r) =
        row_told mid (name_taken rest mid rows v place g h i n) r
