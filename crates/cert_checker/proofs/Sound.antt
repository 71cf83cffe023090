-- What is accepted holds. Each assignment of a case is answered by the leaves so far, lies in the
-- open section or in a piece that is still to come, or waits for its case.
use Rattle.std.proofs.Common.{◌≡◌, ◌⊎◌, ◌≤◌, ◌<◌, ◌+◌, ◌-◌, ℕ, zero, suc, Bool, true, false, List}
use Rattle.std.proofs.Common.{[], ◌∷◌, ◌++◌, length, take, Option, Some, None, refl, sym, ap, subst}
use Rattle.std.proofs.Common.{◌∙◌, arith, inl, inr, ⊎_elim}
use Rattle.std.specs.Prelude.{⊤, slice_get, nat_lt}
use Rattle.std.specs.Option.{IsSomeAnd}
use Rattle.std.specs.List.{AllByRecursion}
use Rattle.std.proofs.lemmas.Bool.{cases_lt, lt-ltb, le-ltb}
use Rattle.std.proofs.lemmas.List.{take-take, length-append, length-take-le}
use Rattle.fx_model.specs.Fraction.{Fraction}
use Rattle.fx_model.specs.Enclosure.{Lies}
use Rattle.fx_model.specs.Expression.{Assignment, IsOrdered}
use Rattle.fx_model.specs.declared.Node.{Node}
use Rattle.fx_model.specs.declared.Node.TheVariants.{Var}
use Rattle.fx_model.specs.declared.ExprId.{ExprId}
use Rattle.dyadic.specs.declared.number.Dyadic.{Dyadic}
use Rattle.interval.specs.Intervals.{range_of}
use Rattle.expr_dag.proofs.Shapes.{node_at-value}
use Rattle.facts.specs.declared.fact.Fact.TheVariants as fact
use Rattle.facts.specs.Conclusions.{bnd_of}
use Rattle.facts.specs.Holds.{Holds}
use Rattle.cert_bytes.specs.declared.item.StepRow.{StepRow}
use Rattle.cert_bytes.specs.declared.item.Item.TheVariants as item
use Rattle.cert_checker.specs.declared.open.Citable.{Citable}
use Rattle.cert_checker.specs.declared.open.OpenCut.{OpenCut}
use Rattle.cert_checker.specs.Contexts.{Context, piece_fact, open_piece}
use Rattle.cert_checker.specs.declared.subject.Subject.{Subject}
use Rattle.cert_checker.specs.Steps.{case_facts}
use Rattle.cert_checker.specs.Faults.{JudgesItem}
use Rattle.cert_checker.specs.After.{around_of, cuts_behind, case_behind, behind, new_cut}
use Rattle.cert_checker.specs.After.{lines_with, after}
use Rattle.cert_checker.specs.Met.{LinesHold}
use Rattle.cert_checker.proofs.Covers.{covers}
use Rattle.cert_checker.proofs.Shown.{LineLaws, HaveLines, AllHold, kept_lines, new_lines}
use Rattle.cert_checker.proofs.Shown.{have_lines}
use Rattle.cert_checker.proofs.StepHolds.{RulesHold, HoldsIf, cited_is, step_holds}

-- ---- how many pieces are still to come

abbrev pub left_of : OpenCut → ℕ
left_of k = (length k.points + 1) - k.entered

abbrev pub pending : List OpenCut → ℕ
pending [] = 0
pending (k ∷ ks) = left_of k + pending ks

-- each cut stands behind the steps around it
abbrev pub IsNested : ℕ → List OpenCut → Type 0
IsNested n [] = ⊤
IsNested n (k ∷ ks) = (k.around ≤ n) × IsNested k.around ks

at_cut : (P : List OpenCut → Type 0) (k : OpenCut) (ks : List OpenCut)
    → (length k.points < k.entered → P (cuts_behind ks)) → (k.entered ≤ length k.points
    → P (record k { entered = k.entered + 1 } ∷ ks)) → P (cuts_behind (k ∷ ks))
at_cut P k ks past next = ⊎_elim
    (λ l. let e : nat_lt (length k.points) k.entered ≡ true =
    lt-ltb (length k.points) k.entered l in rw e (past l))
    (λ l. let e : nat_lt (length k.points) k.entered ≡ false =
    le-ltb (length k.points) k.entered l in rw e (next l))
    (cases_lt (length k.points) k.entered)

pub pending_behind : (ks : List OpenCut) → pending (cuts_behind ks) ≡ pending ks - 1
pending_behind [] = refl
pending_behind (k ∷ ks) = at_cut (λ cs. pending cs ≡ pending (k ∷ ks) - 1) k ks
    (λ l. pending_behind ks ∙ omega (arith, l)) (λ l. omega (arith, l))

pub none_behind : (ks : List OpenCut) → pending ks ≡ 0 → cuts_behind ks ≡ []
none_behind [] e = refl
none_behind (k ∷ ks) e = at_cut (λ cs. cs ≡ []) k ks (λ l. none_behind ks (omega (arith, e)))
    (λ l. absurd (omega (arith, l, e)))

-- the case goes on where pieces are left
pub same_case : (w n : ℕ) (ks : List OpenCut) → pending ks ≡ suc w
    → case_behind n (cuts_behind ks) ≡ n
same_case w n [] e = absurd (omega (arith, e))
same_case w n (k ∷ ks) e = at_cut (λ cs. case_behind n cs ≡ n) k ks
    (λ l. same_case w n ks (omega (arith, l, e))) (λ l. refl)

nested_lower : (n m : ℕ) (ks : List OpenCut) → n ≤ m → IsNested n ks → IsNested m ks
nested_lower n m [] l h = tt
nested_lower n m (k ∷ ks) l h = (omega (arith, l, h.0), h.1)

-- the cuts that are left are nested in the steps that are left
nested_behind : (n : ℕ) (ks : List OpenCut) → IsNested n ks
    → (around_of (cuts_behind ks) ≤ n) × IsNested (around_of (cuts_behind ks)) (cuts_behind ks)
nested_behind n [] h = (omega arith, tt)
nested_behind n (k ∷ ks) h = at_cut (λ cs. (around_of cs ≤ n) × IsNested (around_of cs) cs) k ks
    (λ l. let r = nested_behind k.around ks h.1 in (omega (arith, r.0, h.0), r.1))
    (λ l. (h.0, (omega arith, h.1)))

module _ (laws : LineLaws) (s : Subject) (ns : List Node) (a : Assignment)
    (ordered : IsOrdered ns) (case : ℕ) where
  -- the variable of the cut lies in its piece j
  abbrev pub InPiece : OpenCut → ℕ → Type 0
  InPiece k j = HoldsIf ns a (piece_fact k j)

  -- it lies in a piece of the cut that hasn't been entered
  pub record InLater (k : OpenCut) : Type 0 where
    pub piece : ℕ
    pub later : k.entered ≤ piece
    pub there : piece ≤ length k.points
    pub lies : InPiece k piece

  -- the assignment lies in the open section, so that what may be cited holds of it
  pub record IsHere (c : Context) : Type 0 where
    pub begun : c.case ≡ case
    pub steps : AllHold ns a c.steps
    pub piece : HoldsIf ns a (open_piece c.cuts)

  -- it lies in a piece that is still to come, with what may be cited there
  abbrev pub Waits : List Citable → List OpenCut → Type 0
  Waits steps [] = ⊥
  Waits steps (k ∷ ks) = (InLater k × AllHold ns a (take k.around steps)) ⊎ Waits steps ks

  pub record IsWaiting (c : Context) : Type 0 where
    pub begun : c.case ≡ case
    pub pieces : Waits c.steps c.cuts

  abbrev pub IsAnswered : Context → Type 0
  IsAnswered c = LinesHold ns a s.goals c.lines

  -- it is answered, or its case is still to come
  abbrev pub IsElsewhere : Context → Type 0
  IsElsewhere c = IsAnswered c ⊎ (c.case < case)

  abbrev pub IsSomewhere : Context → Type 0
  IsSomewhere c = IsHere c ⊎ (IsWaiting c ⊎ IsElsewhere c)

  -- what is kept in an open section, where this one and w others are still to end, those of later
  -- cases among them
  pub record IsSound (w : ℕ) (c : Context) : Type 0 where
    pub somewhere : IsSomewhere c
    pub nested : IsNested (length c.steps) c.cuts
    pub pending : pending c.cuts ≤ w
    pub lines : HaveLines s.goals c.lines

  -- ---- a step
  all_append : (xs ys : List Citable) → AllHold ns a xs → AllHold ns a ys → AllHold ns a (xs ++ ys)
  all_append [] ys h k = k
  all_append (x ∷ xs) ys h k = (h.0, all_append xs ys h.1 k)

  all_take : (n : ℕ) (xs : List Citable) → AllHold ns a xs → AllHold ns a (take n xs)
  all_take zero xs h = tt
  all_take (suc n) [] h = tt
  all_take (suc n) (x ∷ xs) h = (h.0, all_take n xs h.1)

  take_front : (n : ℕ) (xs ys : List Citable) → n ≤ length xs → take n (xs ++ ys) ≡ take n xs
  take_front zero xs ys l = refl
  take_front (suc n) [] ys l = absurd (omega arith)
  take_front (suc n) (x ∷ xs) ys l = ap (λ t. x ∷ t) (take_front n xs ys (omega arith))

  waits_longer : (steps more : List Citable) (n : ℕ) (ks : List OpenCut) → n ≤ length steps
      → IsNested n ks → Waits steps ks → Waits (steps ++ more) ks
  waits_longer steps more n [] l h w = w
  waits_longer steps more n (k ∷ ks) l h (inl p) = inl
      (p.0, subst (AllHold ns a) (sym (take_front k.around steps more (omega (arith, l, h.0)))) p.1)
  waits_longer steps more n (k ∷ ks) l h (inr w) =
      inr (waits_longer steps more k.around ks (omega (arith, l, h.0)) h.1 w)

  -- ---- an end of a section
  waits_shorter : (steps : List Citable) (n m : ℕ) (ks : List OpenCut) → m ≤ n → IsNested m ks
      → Waits steps ks → Waits (take n steps) ks
  waits_shorter steps n m [] l h w = w
  waits_shorter steps n m (k ∷ ks) l h (inl p) =
      inl (p.0, subst (AllHold ns a) (sym (take-take k.around n steps (omega (arith, l, h.0)))) p.1)
  waits_shorter steps n m (k ∷ ks) l h (inr w) =
      inr (waits_shorter steps n k.around ks (omega (arith, l, h.0)) h.1 w)

  abbrev Entered : List Citable → List OpenCut → Type 0
  Entered steps cs = (AllHold ns a (take (around_of cs) steps) × HoldsIf ns a (open_piece cs))
      ⊎ Waits (take (around_of cs) steps) cs

  -- who waits lies in the piece that is entered now, or waits on
  enters : (steps : List Citable) (n : ℕ) (ks : List OpenCut) → IsNested n ks → Waits steps ks
      → Entered steps (cuts_behind ks)
  enters steps n [] h w = absurd w
  enters steps n (k ∷ ks) h w = at_cut (Entered steps) k ks
      (λ l. enters steps k.around ks h.1 (⊎_elim (λ p. let a = p.0.later in let b = p.0.there in
      absurd (omega (arith, l, a, b))) (λ v. v) w))
      (λ l. ⊎_elim
      (λ p. ⊎_elim
      (λ m. inr (inl (
        record { piece = p.0.piece; later = omega (arith, m); there = p.0.there; lies = p.0.lies },
        subst (AllHold ns a) (sym (take-take k.around k.around steps (omega arith))) p.1,
      )))
      (λ m. let e : p.0.piece ≡ (k.entered + 1) - 1 = let q = p.0.later in omega (arith, m, q) in
      inl (p.1, subst (InPiece k) e p.0.lies))
      (cases_lt k.entered p.0.piece))
      (λ v. inr (inr (waits_shorter steps k.around k.around ks (omega arith) h.1 v)))
      w)

  -- ---- a cut
  piece_holds : (k : OpenCut) (n : ℕ) → slice_get ns k.var.0 ≡ Some (Var n)
      → (j : ℕ) × (j ≤ length k.points) × InPiece k j
  piece_holds k n e =
      let v = node_at-value ns a k.var (Var n) ordered e in
      let r = covers k.points
      (Rattle.std.specs.Prelude.slice_index_or a n Rattle.fx_model.specs.Fraction.zero_ℚ) in
      let P : Option Fraction → Type 0 = λ o. IsSomeAnd o (Lies (range_of r.2.0)) in
      let h : Holds ns a (fact.Bnd k.var r.2.0) = subst P (sym v) r.2.2 in
      (r.0, r.1, subst (λ o. HoldsIf ns a (bnd_of k.var o)) (sym r.2.1) h)

  -- ---- items of sections
  pub step_sound : (w : ℕ) (c : Context) → c.nodes ≡ ns → RulesHold ns a s.hints
      → AllByRecursion (Holds ns a) (case_facts s.cases case) → IsSound w c → (r : StepRow)
      → JudgesItem s c (item.Step r) None → IsSound w (after c (item.Step r))
  step_sound w c e rules facts q r j =
      let x : Citable = record { number = c.next; fact = r.fact } in record {
        somewhere = ⊎_elim
            (λ here.
            let open_facts = subst (λ k. AllByRecursion (Holds ns a) (case_facts s.cases k))
            (sym here.begun) facts in
            inl (record {
              begun = here.begun;
              steps = all_append c.steps (x ∷ []) here.steps
                  (step_holds ns a ordered s c e rules open_facts here.piece here.steps r j.1, tt);
              piece = here.piece;
            }))
            (λ rest. ⊎_elim (λ v. inr (inl (record {
              begun = v.begun;
              pieces = waits_longer c.steps (x ∷ [])
                  (length c.steps) c.cuts (omega arith) q.nested v.pieces;
            }))) (λ v. inr (inr v)) rest)
            q.somewhere;
        nested = nested_lower (length c.steps) (length (c.steps ++ (x ∷ []))) c.cuts
            (omega (arith, length-append c.steps (x ∷ []))) q.nested;
        pending = q.pending;
        lines = q.lines;
      }

  entered_or_waits : (c : Context) (k : OpenCut) → k.entered ≡ 1 → k.around ≡ length c.steps
      → AllHold ns a c.steps → (j : ℕ) × (j ≤ length k.points) × InPiece k j
      → InPiece k (k.entered - 1) ⊎ (InLater k × AllHold ns a (take k.around c.steps))
  entered_or_waits c k e f h (zero, l, p) =
      inl (let z : 0 ≡ k.entered - 1 = omega (arith, e) in subst (InPiece k) z p)
  entered_or_waits c k e f h (suc j, l, p) = inr (
    record { piece = suc j; later = omega (arith, e); there = l; lies = p },
    all_take k.around c.steps h,
  )

  pub cut_sound : (w : ℕ) (c : Context) → c.nodes ≡ ns
      → IsSound w c → (x : ExprId) (ps : List Dyadic) → JudgesItem s c (item.Cut x ps) None
      → IsSound (w + length ps) (after c (item.Cut x ps))
  cut_sound w c e q x ps j =
      let k = new_cut c x ps in
      let P : List Node → Type 0 = λ l. slice_get l x.0 ≡ Some (Var j.1.0.0) in
      let cover = piece_holds k j.1.0.0 (subst P e j.1.0.1) in
      record {
        somewhere = ⊎_elim
            (λ here.
            ⊎_elim (λ p. inl (record { begun = here.begun; steps = here.steps; piece = p }))
            (λ v. inr (inl (record { begun = here.begun; pieces = inl v })))
            (entered_or_waits c k refl refl here.steps cover))
            (λ rest. ⊎_elim (λ v. inr (inl (record { begun = v.begun; pieces = inr v.pieces })))
            (λ v. inr (inr v)) rest)
            q.somewhere;
        nested = (omega arith, q.nested);
        pending = let z = q.pending in omega (arith, z);
        lines = q.lines;
      }

  -- what is kept behind a section, where w sections are still to end
  abbrev pub Behind : ℕ → Context → Type 0
  Behind zero c = IsAnswered c ⊎ (c.case ≤ case)
  Behind (suc w) c = IsSound w c

  waits_pending : (steps : List Citable) (ks : List OpenCut) → pending ks ≡ 0 → Waits steps ks → ⊥
  waits_pending steps [] e w = w
  waits_pending steps (k ∷ ks) e (inl p) = let l = p.0.later in let t = p.0.there in
      absurd (omega (arith, e, l, t))
  waits_pending steps (k ∷ ks) e (inr w) = waits_pending steps ks (omega (arith, e)) w

  -- behind the last section of a root the next one is open
  next_root : (w : ℕ) (b d : Bool) (c : Context) → pending c.cuts ≡ 0 → HaveLines s.goals c.lines
      → IsWaiting c ⊎ IsElsewhere c → IsSound w (record (behind c) { begun = b; ended = d })
  next_root w b d c e h v =
      let none : cuts_behind c.cuts ≡ [] = none_behind c.cuts e in
      let next : case_behind c.case (cuts_behind c.cuts) ≡ c.case + 1 =
      ap (case_behind c.case) none in
      let bare : take (around_of (cuts_behind c.cuts)) c.steps ≡ [] =
      ap (λ ks. take (around_of ks) c.steps) none in
      record {
        somewhere = ⊎_elim
            (λ x. absurd (waits_pending c.steps c.cuts e x.pieces))
            (λ x. ⊎_elim
            (λ p. inr (inr (inl p)))
            (λ l. ⊎_elim
            (λ m. inr (inr (inr (omega (arith, m, next)))))
            (λ m. inl (record {
              begun = omega (arith, l, m, next);
              steps = subst (AllHold ns a) (sym bare) tt;
              piece = subst (λ ks. HoldsIf ns a (open_piece ks)) (sym none) tt;
            }))
            (cases_lt (c.case + 1) case))
            x)
            v;
        nested =
            subst (IsNested (length (take (around_of (cuts_behind c.cuts)) c.steps))) (sym none) tt;
        pending = let z = ap pending none in omega (arith, z);
        lines = h;
      }

  -- behind another section of a root the next piece is open
  next_piece : (w p : ℕ) (b d : Bool) (c : Context) → IsNested (length c.steps) c.cuts
      → pending c.cuts ≡ suc p → p ≤ w → HaveLines s.goals c.lines → IsWaiting c ⊎ IsElsewhere c
      → IsSound w (record (behind c) { begun = b; ended = d })
  next_piece w p b d c n e few h v =
      let r = nested_behind (length c.steps) c.cuts n in
      let same : case_behind c.case (cuts_behind c.cuts) ≡ c.case = same_case p c.case c.cuts e in
      let len : length (take (around_of (cuts_behind c.cuts)) c.steps) ≡ around_of
      (cuts_behind c.cuts) = length-take-le (around_of (cuts_behind c.cuts)) c.steps r.0 in
      let one_less = pending_behind c.cuts in
      record {
        somewhere = ⊎_elim
            (λ x. ⊎_elim (λ p. inl (record { begun = same ∙ x.begun; steps = p.0; piece = p.1 }))
            (λ p. inr (inl (record { begun = same ∙ x.begun; pieces = p })))
            (enters c.steps (length c.steps) c.cuts n x.pieces))
            (λ x. inr (inr (⊎_elim (λ p. inl p) (λ l. inr (omega (arith, same, l))) x)))
            v;
        nested = subst (λ m. IsNested m (cuts_behind c.cuts)) (sym len) r.1;
        pending = omega (arith, one_less, e, few);
        lines = h;
      }

  ends : (w : ℕ) (b d : Bool) (c : Context) → IsNested (length c.steps) c.cuts
      → pending c.cuts ≤ w → HaveLines s.goals c.lines → IsWaiting c ⊎ IsElsewhere c
      → Behind w (record (behind c) { begun = b; ended = d })
  ends zero b d c n few h (inl v) = let e : pending c.cuts ≡ 0 = omega (arith, few) in
      absurd (waits_pending c.steps c.cuts e v.pieces)
  ends zero b d c n few h (inr (inl v)) = inl v
  ends zero b d c n few h (inr (inr l)) =
      let e : pending c.cuts ≡ 0 = omega (arith, few) in
      inr (let next : case_behind c.case (cuts_behind c.cuts) ≡ c.case + 1 =
      ap (case_behind c.case) (none_behind c.cuts e) in omega (arith, l, next))
  ends (suc w) b d c n few h v = ⊎_elim
      (λ m. next_piece w (pending c.cuts - 1) b d c n (omega (arith, m)) (omega (arith, few)) h v)
      (λ m. next_root w b d c (omega (arith, m)) h v)
      (cases_lt 0 (pending c.cuts))

  pub leaf_sound : (w : ℕ) (c : Context) → IsSound w c → (refs : List ℕ)
      → JudgesItem s c (item.Leaf refs) None → Behind w (after c (item.Leaf refs))
  leaf_sound w c q refs j =
      let c0 : Context = record c { lines = lines_with c.steps c.lines refs } in
      ends w true false c0 q.nested q.pending (have_lines c.steps s.goals c.lines refs q.lines)
      (⊎_elim
      (λ here. inr (inl (new_lines laws ns a c.steps
      (cited_is ns a ordered c.steps here.steps) s.goals c.lines refs q.lines j.1)))
      (λ rest. ⊎_elim (λ v. inl (record { begun = v.begun; pieces = v.pieces }))
      (λ v. inr (⊎_elim (λ p. inl (kept_lines laws ns a c.steps s.goals c.lines refs p))
      (λ l. inr l) v)) rest)
      q.somewhere)

  pub dead_sound : (w : ℕ) (c : Context) → IsSound w c → (r : ℕ) → JudgesItem s c (item.Dead r) None
      → Behind w (after c (item.Dead r))
  dead_sound w c q r j = ends w true false c q.nested q.pending q.lines
      (⊎_elim (λ here. absurd (cited_is ns a ordered c.steps here.steps r fact.Void j.1))
      (λ rest. rest) q.somewhere)

  -- who lies in the root section, which hasn't begun, is answered where no section is due
  pub none_due : (w : ℕ) (c : Context) → IsSound w c → Behind 0 c
  none_due w c q = ⊎_elim (λ here. inr (let e = here.begun in omega (arith, e)))
      (λ rest. ⊎_elim (λ v. inr (let e = v.begun in omega (arith, e)))
      (λ v. ⊎_elim (λ p. inl p) (λ l. inr (omega (arith, l))) v) rest) q.somewhere

  -- so many root sections follow
  pub cases_sound : (c : Context) → IsSound 0 c → (n : ℕ) → Behind n (after c (item.Cases n))
  cases_sound c q zero = ⊎_elim (λ p. inl p) (λ l. inr l) (none_due 0 c q)
  cases_sound c q (suc m) = record {
    somewhere =
        ⊎_elim (λ here. inl (record { begun = here.begun; steps = here.steps; piece = here.piece }))
        (λ rest. ⊎_elim (λ v. inr (inl (record { begun = v.begun; pieces = v.pieces })))
        (λ v. inr (inr v)) rest) q.somewhere;
    nested = q.nested;
    pending = let z = q.pending in omega (arith, z);
    lines = q.lines;
  }
