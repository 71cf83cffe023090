-- What the claims of a program's script are about, and when they are true.
use Rattle.std.proofs.Common.{◌≡◌, ◌↔◌, ◌<◌, ◌≤◌, ◌&&◌, ◌==◌, ℕ, ℤ, pos, zero, suc, Bool, true}
use Rattle.std.proofs.Common.{false, List, [], ◌∷◌, ◌++◌, length, map, Some, refl, sym, ap, ◌∙◌}
use Rattle.std.proofs.Common.{subst, arith, if◌then◌else◌}
use Rattle.std.specs.Prelude.{neg_ℤ}
use Rattle.std.specs.List.{AllByRecursion}
use Rattle.std.specs.Option.{IsSomeAnd}
use Rattle.std.specs.Fmt.{decimal, digits}
use Rattle.fx_model.specs.Fraction.{Fraction, le_ℚ, ◌≤ℚ◌}
use Rattle.fx_model.specs.Powers.{scaled}
use Rattle.fx_model.specs.Enclosure.{Lies}
use Rattle.fx_model.specs.declared.ExprId.{ExprId}
use Rattle.fx_model.specs.declared.Node.{Node}
use Rattle.fx_model.specs.Expression.{Assignment, value}
use Rattle.literal_order.specs.Values.{written_value}
use Rattle.expr_dag.specs.Extended.{ValuesStay}
use Rattle.script_bounds.specs.Bounds.{written_range}
use Rattle.script_nodes.specs.Literals.{LiteralsAreTold, SpelledOnce}
use Rattle.script_nodes.specs.Known.{Name, Known, named, entry_of}
use Rattle.script_nodes.specs.Written.{bound_written}
use Rattle.script_claims.specs.declared.claim.Claim.{Claim}
use Rattle.script_claims.specs.Claims.{exponent_of, exponent_size}
use Rattle.script_claims.specs.Meets.{IsTrueAt}
use Rattle.fixprog.specs.declared.program.Mark.{Mark}
use Rattle.fixprog.specs.declared.program.Mark.TheVariants as mark
use Rattle.fixprog.specs.Grammar.{Bound as End, Input, Step, Program, outputs}
use Rattle.fixprog.specs.Formats.{format_of, is_format, is_within, least, greatest, word_value}
use Rattle.fixprog.specs.Faults.{bound_value}
use Rattle.fixprog.specs.Execution.{Values, step_value, run_steps, wraps, values}
use Rattle.fixprog.proofs.Narrow.{narrow}
use Rattle.program_truths.specs.Promise.{subject, hypothesis_names, goal_names}
use Rattle.program_truths.proofs.Trees.{place_whole, end_bound, word_bound}
use Rattle.program_truths.proofs.Texts.{both, all_below, below}
use Rattle.program_truths.proofs.Knowing.{IsFront, knows_behind, name_gives}
use Rattle.program_truths.proofs.Growing.{Grows, grows_still, grows_both, grows_named, front_of}
use Rattle.program_truths.proofs.Running.{Ready, all_values}
use Rattle.program_truths.proofs.Saying.{Saying, said_known, said_claims, range_saying}
use Rattle.program_truths.proofs.Saying.{place_saying, input_sayings, format_saying, output_saying}
use Rattle.program_truths.proofs.Saying.{goal_sayings}
use Rattle.program_truths.proofs.BoundValues.{least_is, greatest_is}
use Rattle.program_truths.proofs.Own.{HasEntry, Keeps, AreOwn, AreGiven}

-- ---- nodes that stay

-- Nodes that were there keep their values.
pub record IsKept (a : Assignment) (k j : Known) : Type 0 where
  pub longer : length k.nodes ≤ length j.nodes
  pub kept : (y : ExprId) → y.0 < length k.nodes → value j.nodes a y ≡ value k.nodes a y

kept_both : {a : Assignment} {k j i : Known} → IsKept a k j → IsKept a j i → IsKept a k i
kept_both g h = record {
  longer = let x = g.longer in let y = h.longer in omega (arith, x, y);
  kept = λ y l. h.kept y (let x = g.longer in omega (arith, x)) ∙ g.kept y l;
}

-- The claim is made of an expression with the name's value.
pub record IsTold (a : Assignment) (nodes : List Node) (vs : Values) (x : Saying) (c : Claim)
    : Type 0 where
  pub about : ExprId
  pub claim : c ≡ x.1 about
  pub within : about.0 < length nodes
  pub number : Fraction
  pub entry : entry_of vs x.0 ≡ Some number
  pub is : value nodes a about ≡ Some number

abbrev pub AreTold : Assignment → List Node → Values → List Saying → List Claim → Type 0
AreTold a nodes vs [] [] = Unit {0}
AreTold a nodes vs (x ∷ xs) (c ∷ cs) = IsTold a nodes vs x c × AreTold a nodes vs xs cs
AreTold a nodes vs _ _ = ⊥

pub told_kept : (a : Assignment) (k j : Known) (vs : Values) (xs : List Saying) (cs : List Claim)
    → IsKept a k j → AreTold a k.nodes vs xs cs → AreTold a j.nodes vs xs cs
told_kept a k j vs [] [] h t = tt
told_kept a k j vs (x ∷ xs) [] h t = absurd t
told_kept a k j vs [] (c ∷ cs) h t = absurd t
told_kept a k j vs (x ∷ xs) (c ∷ cs) h t =
    let o = t.0 in (
      record {
        about = o.about;
        claim = o.claim;
        within = let x = h.longer in let y = o.within in omega (arith, x, y);
        number = o.number;
        entry = o.entry;
        is = h.kept o.about o.within ∙ o.is;
      },
      told_kept a k j vs xs cs h t.1,
    )

abbrev pub HaveEntries : Values → List Saying → Type 0
HaveEntries vs xs = AllByRecursion (λ x. HasEntry vs x.0) xs

pub said_grow : (xs : List Saying) (k : Known) → Grows k (said_known xs k)
said_grow [] k = grows_still k
said_grow (x ∷ xs) k = grows_both (grows_named k x.0) (said_grow xs (named k x.0).0)

-- What is said behind what is known.
pub record IsSaid (a : Assignment) (f : Name → Fraction) (vs : Values) (xs : List Saying)
    (k : Known) : Type 0 where
  pub ready : Ready a f vs (said_known xs k)
  pub kept : IsKept a k (said_known xs k)
  pub told : AreTold a (said_known xs k).nodes vs xs (said_claims xs k)

module _ (stay : ValuesStay) (f : Name → Fraction) (vars : List Name) where
  pub said : (xs : List Saying) (vs : Values) (k : Known) → HaveEntries vs xs
      → Ready (map f vars) f vs k → IsFront (said_known xs k).variables vars
      → IsSaid (map f vars) f vs xs k
  said [] vs k h r front = record {
    ready = r;
    kept = record { longer = omega arith; kept = λ y l. refl };
    told = tt;
  }
  said (x ∷ xs) vs k h r front =
      let q = named k x.0 in
      let e = h.0 in
      let g = name_gives stay f vars k x.0 e.0 r.ordered (r.knows x.0 e.0 e.1)
      (front_of (said_grow xs q.0) front) in
      let s = said xs vs q.0 h.1
      (record {
        ordered = g.ordered;
        knows = knows_behind (map f vars) f vs k q (Some e.0) g r.knows;
      }) front in
      let first : IsKept (map f vars) k q.0 = record { longer = g.longer; kept = g.kept } in
      record {
        ready = s.ready;
        kept = kept_both first s.kept;
        told = (
          record {
            about = q.1;
            claim = refl;
            within = let m = s.kept.longer in let n = g.within in omega (arith, m, n);
            number = e.0;
            entry = e.1;
            is = s.kept.kept q.1 g.within ∙ g.is;
          },
          s.told,
        );
      }

-- ---- subjects

abbrev AreAbout : List Saying → Type 0
AreAbout xs = AllByRecursion (λ x. (y : ExprId) → subject (x.1 y) ≡ y) xs

module _ (a : Assignment) (nodes : List Node) (vs : Values) where
  told_values : (xs : List Saying) (cs : List Claim) → AreAbout xs → AreTold a nodes vs xs cs
      → map (λ c. value nodes a (subject c)) cs ≡ map (λ x. entry_of vs x.0) xs
  told_values [] [] h t = refl
  told_values (x ∷ xs) [] h t = absurd t
  told_values [] (c ∷ cs) h t = absurd t
  told_values (x ∷ xs) (c ∷ cs) h t =
      let o = t.0 in
      let one : value nodes a (subject c) ≡ entry_of vs x.0 =
      ap (λ z. value nodes a (subject z)) o.claim ∙ ap (value nodes a) (h.0 o.about) ∙ o.is
      ∙ sym o.entry in
      ap (λ z. z ∷ map (λ c. value nodes a (subject c)) cs) one
      ∙ ap (λ l. entry_of vs x.0 ∷ l) (told_values xs cs h.1 t.1)

inputs_about : (xs : List Input) → AreAbout (input_sayings xs)
inputs_about [] = tt
inputs_about (x ∷ xs) = ((λ y. refl), ((λ y. refl), inputs_about xs))

goals_about : (xs : List Step) (ts : List Name)
    → AreAbout (map format_saying xs ++ map output_saying ts)
goals_about [] [] = tt
goals_about [] (t ∷ ts) = ((λ y. refl), goals_about [] ts)
goals_about (x ∷ xs) ts = ((λ y. refl), goals_about xs ts)

inputs_named : (vs : Values) (xs : List Input)
    → map (λ x. entry_of vs x.0) (input_sayings xs) ≡ map (entry_of vs) (hypothesis_names xs)
inputs_named vs [] = refl
inputs_named vs (x ∷ xs) = ap (λ l. entry_of vs x.name ∷ (entry_of vs x.name ∷ l))
    (inputs_named vs xs)

goals_named : (vs : Values) (xs : List Step) (ts : List Name)
    → map (λ x. entry_of vs x.0) (map format_saying xs ++ map output_saying ts)
    ≡ map (entry_of vs) (map (λ x. x.name) xs ++ ts)
goals_named vs [] [] = refl
goals_named vs [] (t ∷ ts) = ap (λ l. entry_of vs t ∷ l) (goals_named vs [] ts)
goals_named vs (x ∷ xs) ts = ap (λ l. entry_of vs x.name ∷ l) (goals_named vs xs ts)

pub hypothesis_values : (a : Assignment) (nodes : List Node) (vs : Values) (xs : List Input)
    (cs : List Claim) → AreTold a nodes vs (input_sayings xs) cs
    → map (λ c. value nodes a (subject c)) cs ≡ map (entry_of vs) (hypothesis_names xs)
hypothesis_values a nodes vs xs cs t =
    told_values a nodes vs (input_sayings xs) cs (inputs_about xs) t ∙ inputs_named vs xs

pub goal_values : (a : Assignment) (nodes : List Node) (vs : Values) (p : Program)
    (cs : List Claim) → AreTold a nodes vs (goal_sayings p) cs
    → map (λ c. value nodes a (subject c)) cs ≡ map (entry_of vs) (goal_names p)
goal_values a nodes vs p cs t =
    told_values a nodes vs (goal_sayings p) cs (goals_about p.steps (outputs p)) t
    ∙ goals_named vs p.steps (outputs p)

-- ---- runs

abbrev pub AllWithin : Values → List Step → Type 0
AllWithin vs [] = Unit {0}
AllWithin vs (x ∷ xs) = (is_within (format_of x.format) (step_value vs x) ≡ true)
    × AllWithin ((x.name, step_value vs x) ∷ vs) xs

pub run_ends : (vs : Values) (xs : List Step) → AllWithin vs xs
    → run_steps vs xs ≡ values (all_values vs xs)
run_ends vs [] h = refl
run_ends vs (x ∷ xs) h =
    ap (λ b. if b then run_steps ((x.name, step_value vs x) ∷ vs) xs else wraps x.name) h.0
    ∙ run_ends ((x.name, step_value vs x) ∷ vs) xs h.1

within_by : (vs ws : Values) (x : Step) (xs : List Step)
    → (run_steps ((x.name, step_value vs x) ∷ vs) xs ≡ values ws
    → AllWithin ((x.name, step_value vs x) ∷ vs) xs
    × (all_values ((x.name, step_value vs x) ∷ vs) xs ≡ ws))
    → (b : Bool) → is_within (format_of x.format) (step_value vs x) ≡ b
    → (if b then run_steps ((x.name, step_value vs x) ∷ vs) xs else wraps x.name) ≡ values ws
    → AllWithin vs (x ∷ xs) × (all_values vs (x ∷ xs) ≡ ws)
within_by vs ws x xs on true e h = let r = on h in ((e, r.0), r.1)
within_by vs ws x xs on false e h = absurd (cc)

pub run_within : (vs ws : Values) (xs : List Step) → run_steps vs xs ≡ values ws
    → AllWithin vs xs × (all_values vs xs ≡ ws)
run_within vs ws [] h = (tt, let e : vs ≡ ws = cc in e)
run_within vs ws (x ∷ xs) h =
    within_by vs ws x xs (run_within ((x.name, step_value vs x) ∷ vs) ws xs)
    (is_within (format_of x.format) (step_value vs x)) refl h

-- ---- claims that are true

some_true : (nodes : List Node) (a : Assignment) (y : ExprId) (v : Fraction) (P : Fraction → Type 0)
    → value nodes a y ≡ Some v → P v → IsSomeAnd (value nodes a y) P
some_true nodes a y v P e h = subst (λ o. IsSomeAnd o P) (sym e) h

true_some : (nodes : List Node) (a : Assignment) (y : ExprId) (v : Fraction) (P : Fraction → Type 0)
    → value nodes a y ≡ Some v → IsSomeAnd (value nodes a y) P → P v
true_some nodes a y v P e h = subst (λ o. IsSomeAnd o P) e h

same_number : (vs : Values) (t : Name) (u v : Fraction) → entry_of vs t ≡ Some u
    → entry_of vs t ≡ Some v → u ≡ v
same_number vs t u v e h = let s : Some u ≡ Some v = sym e ∙ h in cc

end_value : (e : End) → written_value (bound_written (end_bound e)) ≡ bound_value e
end_value e = by_mark e.mark
  where
    by_mark : (m : Mark) → written_value (bound_written
        (end_bound (record { mark = m; text = e.text })))
        ≡ bound_value (record { mark = m; text = e.text })
    by_mark mark.Unmarked = refl
    by_mark mark.Plus = refl
    by_mark mark.Minus = refl

exponents_are_read : all_below 64 (λ n. exponent_size (decimal n) == n) ≡ true
unfolding exponent_size digits
exponents_are_read = refl

exponent_is : (n : ℕ) → n < 64 → exponent_of (place_whole n) ≡ neg_ℤ (pos n)
unfolding exponent_size
exponent_is zero l = refl
exponent_is (suc k) l = ap (λ m. neg_ℤ (pos m)) (size_is (suc k) l)
  where
    size_is : (n : ℕ) → n < 64 → exponent_size (decimal n) ≡ n
    size_is n l = let h = below 64 n (λ n. exponent_size (decimal n) == n) exponents_are_read l in
        grind (arith, h)

-- an input's claims
range_true : (nodes : List Node) (a : Assignment) (vs : Values) (names last : List Name)
    (x : Input) (w : ℤ) (c : Claim) → entry_of vs x.name ≡ Some (word_value (format_of x.format) w)
    → bound_value x.lower ≤ℚ word_value (format_of x.format) w
    → word_value (format_of x.format) w ≤ℚ bound_value x.upper
    → IsTold a nodes vs (range_saying x) c → IsTrueAt nodes a c
range_true nodes a vs names last x w c own low high t =
    let v = word_value (format_of x.format) w in
    let e = same_number vs x.name t.number v t.entry own in
    subst (IsTrueAt nodes a) (sym t.claim)
    (some_true nodes a t.about v _ (t.is ∙ ap Some e) (
      subst (λ z. z ≤ℚ v) (sym (end_value x.lower)) low,
      subst (λ z. v ≤ℚ z) (sym (end_value x.upper)) high,
    ))

place_true : (nodes : List Node) (a : Assignment) (vs : Values) (x : Input) (w : ℤ) (c : Claim)
    → entry_of vs x.name ≡ Some (word_value (format_of x.format) w)
    → is_format (format_of x.format) ≡ true → IsTold a nodes vs (place_saying x) c
    → IsTrueAt nodes a c
place_true nodes a vs x w c own form t =
    let f = format_of x.format in
    let v = word_value f w in
    let n = narrow f form in
    let e = same_number vs x.name t.number v t.entry own in
    subst (IsTrueAt nodes a) (sym t.claim)
    (some_true nodes a t.about v _ (t.is ∙ ap Some e)
    (w, ap (scaled w) (sym (exponent_is f.places n.places))))

pub hypotheses_true : (nodes : List Node) (a : Assignment) (vs end : Values)
    (names last : List Name) (xs : List Input) (ws : List ℤ) (cs : List Claim)
    → Keeps vs end last
    → AreGiven vs names last xs ws → AreTold a nodes end (input_sayings xs) cs
    → AllByRecursion (IsTrueAt nodes a) cs
hypotheses_true nodes a vs end names last [] ws [] k g t = tt
hypotheses_true nodes a vs end names last [] ws (c ∷ cs) k g t = absurd t
hypotheses_true nodes a vs end names last (x ∷ xs) [] cs k g t = absurd g
hypotheses_true nodes a vs end names last (x ∷ xs) (w ∷ ws) [] k g t = absurd t
hypotheses_true nodes a vs end names last (x ∷ xs) (w ∷ ws) (c ∷ []) k g t = absurd t.1
hypotheses_true nodes a vs end names last (x ∷ xs) (w ∷ ws) (c ∷ (d ∷ cs)) k g t =
    let o = g.0 in
    let own = k x.name o.there ∙ o.own in (
      range_true nodes a end names last x w c own o.low o.high t.0,
      (
        place_true nodes a end x w d own o.format t.1.0,
        hypotheses_true nodes a vs end names last xs ws cs k g.1 t.1.1,
      ),
    )

module _ (told : LiteralsAreTold) (once : SpelledOnce) where
  and_true : (b c : Bool) → b ≡ true → c ≡ true → (b && c) ≡ true
  and_true b c h k = rw (h, k) refl

  format_true : (nodes : List Node) (a : Assignment) (vs : Values) (x : Step) (u : Fraction)
      (c : Claim) → is_format (format_of x.format) ≡ true → entry_of vs x.name ≡ Some u
      → IsTold a nodes vs (format_saying x) c
      → IsTrueAt nodes a c ↔ (is_within (format_of x.format) u ≡ true)
  format_true nodes a vs x u c form own t =
      let f = format_of x.format in
      let n = narrow f form in
      let least_value = least_is told once f n.width n.places in
      let greatest_value = greatest_is told once f n.width n.places in
      let low = word_value f (least f) in
      let high = word_value f (greatest f) in
      let e = t.is ∙ ap Some (same_number vs x.name t.number u t.entry own) in
      let P : Fraction → Type 0 = Lies (written_range
      (Some (bound_written (word_bound (least f) f)))
      (Some (bound_written (word_bound (greatest f) f)))) in (
        λ h. let k = true_some nodes a t.about u P e (subst (IsTrueAt nodes a) t.claim h) in
            and_true (le_ℚ low u) (le_ℚ u high)
            (subst (λ z. z ≤ℚ u) least_value k.0).le (subst (λ z. u ≤ℚ z) greatest_value k.1).le,
        λ h. let k = both (le_ℚ low u) (le_ℚ u high) h in
            subst (IsTrueAt nodes a) (sym t.claim)
            (some_true nodes a t.about u P e (
              subst (λ z. z ≤ℚ u) (sym least_value) (record { le = k.0 }),
              subst (λ z. u ≤ℚ z) (sym greatest_value) (record { le = k.1 }),
            )),
      )

  module _ (nodes : List Node) (a : Assignment) (end : Values) where
    pub goals_true : (vs : Values) (xs : List Step) (ts : List Name) (cs : List Claim)
        → AreOwn vs end xs
        → AreTold a nodes end (map format_saying xs ++ map output_saying ts) cs
        → AllWithin vs xs → AllByRecursion (IsTrueAt nodes a) cs
    goals_true vs [] [] [] o t w = tt
    goals_true vs [] [] (c ∷ cs) o t w = absurd t
    goals_true vs [] (y ∷ ts) [] o t w = absurd t
    goals_true vs [] (y ∷ ts) (c ∷ cs) o t w =
        let k = t.0 in
        (subst (IsTrueAt nodes a) (sym k.claim) tt, goals_true vs [] ts cs o t.1 w)
    goals_true vs (x ∷ xs) ts [] o t w = absurd t
    goals_true vs (x ∷ xs) ts (c ∷ cs) o t w =
        let k = o.0 in (
          (format_true nodes a end x (step_value vs x) c k.format k.own t.0).1 w.0,
          goals_true ((x.name, step_value vs x) ∷ vs) xs ts cs o.1 t.1 w.1,
        )

    pub goals_within : (vs : Values) (xs : List Step) (ts : List Name) (cs : List Claim)
        → AreOwn vs end xs
        → AreTold a nodes end (map format_saying xs ++ map output_saying ts) cs
        → AllByRecursion (IsTrueAt nodes a) cs → AllWithin vs xs
    goals_within vs [] ts cs o t h = tt
    goals_within vs (x ∷ xs) ts [] o t h = absurd t
    goals_within vs (x ∷ xs) ts (c ∷ cs) o t h =
        let k = o.0 in (
          (format_true nodes a end x (step_value vs x) c k.format k.own t.0).0 h.0,
          goals_within ((x.name, step_value vs x) ∷ vs) xs ts cs o.1 t.1 h.1,
        )
