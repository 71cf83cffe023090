-- The turns of a worker.
use Rattle.std.proofs.Common.{◌≡◌, ℕ, ◌+◌, ◌<◌, List, [], ◌∷◌, ◌++◌, Option, Some, None, IfNone}
use Rattle.std.proofs.Common.{is_some, false, sym, refl, ap, ◌∙◌, subst, append_assoc, arith}
use Rattle.std.proofs.lemmas.List.Elements.{All-nil, All-push}
use Rattle.boxcar.specs.Table.{Shelves}
use Rattle.bisect.specs.Trees.{Tree, child_count}
use Rattle.bisect.specs.Boxes.{leaf_at}
use Rattle.bisect.specs.declared.outcome.Leaf.{Leaf}
use Rattle.accounts.proofs.SumsLaws.{total_snoc}
use Rattle.box_deques.specs.Seen.{Lane, Hand}
use Rattle.box_workers.specs.declared.fate.Held.{Held}
use Rattle.box_workers.specs.declared.fate.Fate.{Fate}
use Rattle.box_workers.specs.declared.fate.Fate.TheVariants as fate
use Rattle.box_workers.specs.Seen.{BoxTask}
use Rattle.box_workers.specs.Fates.{children_of, Pushes, IsFate}
use Rattle.box_workers.specs.Records.{children_of_all, record_weight, IsLeafWithState, IsRecord}
use Rattle.box_workers.specs.Records.{IsEntered}
use Rattle.box_workers.specs.Taking.{weight_of, hand_took, took, HandWentOn, LaneWentOn}
use Rattle.box_workers.proofs.Taking.{goes_on_trans, goes_on_same, went_on_trans, went_on_same}

append_none : {X : Type 0} (xs : List X) → xs ++ [] ≡ xs
append_none [] = refl
append_none {X} (x ∷ xs) = ap (λ (l : List X). x ∷ l) (append_none xs)

pub children_snoc : (t : Tree) (ps : List (List ℕ)) (p : List ℕ)
    → children_of_all t (ps ++ p ∷ []) ≡ children_of_all t ps ++ children_of p (child_count t p)
children_snoc t [] p = append_none (children_of p (child_count t p))
children_snoc t (q ∷ ps) p =
    ap (λ (r : List (List ℕ)). children_of q (child_count t q) ++ r) (children_snoc t ps p)
    ∙ sym (append_assoc (children_of q (child_count t q)) (children_of_all t ps)
    (children_of p (child_count t p)))

lane_trans : (a b c : Lane) → LaneWentOn a b → LaneWentOn b c → LaneWentOn a c
lane_trans a b c x y = record {
  takes = goes_on_trans a.takes b.takes c.takes x.takes y.takes;
  number = y.number ∙ x.number;
  hands = y.hands ∙ x.hands;
  name = y.name ∙ x.name;
}

lane_pushes : (a b : Lane) (ps : List (List ℕ)) → Pushes a b ps → LaneWentOn a b
lane_pushes a b ps x = record {
  takes = ([], x.takes ∙ sym (append_none a.takes));
  number = x.number;
  hands = x.hands;
  name = x.name;
}

module _ {E : Type 0} (t : Tree) (path_of : E → List ℕ) (capacity : ℕ) (board : Shelves) where
  -- at the start
  pub no_turn : (lane : Lane) (hand : Hand) (settled : List Leaf) (split : List (List ℕ))
      (held : Option (Held E)) → settled ≡ [] → split ≡ [] → held ≡ None
      → IsRecord t path_of capacity board lane lane hand hand settled split held
  no_turn lane hand settled split held a b c =
      let P : List Leaf → Type 0 =
      λ s. IsRecord t path_of capacity board lane lane hand hand s split held in
      let Q : List (List ℕ) → Type 0 =
      λ p. IsRecord t path_of capacity board lane lane hand hand [] p held in
      let R : Option (Held E) → Type 0 =
      λ o. IsRecord t path_of capacity board lane lane hand hand [] [] o in
      subst P (sym a) (subst Q (sym b) (subst R (sym c) (record {
        taken = (λ h. omega arith);
        pushed = sym (append_none lane.pushed);
        leaves = All-nil (IsLeafWithState t);
        inner = All-nil (λ (p : List ℕ). 0 < child_count t p);
        fits = tt;
        lane_on =
            record { takes = goes_on_same lane.takes; number = refl; hands = refl; name = refl };
        hand_on = went_on_same hand;
      })))

  module _ (lane lane' lane'' : Lane) (hand hand' hand'' : Hand) (settled : List Leaf)
      (split : List (List ℕ)) (held : Option (Held E)) (none : held ≡ None)
      (so_far : IsRecord t path_of capacity board lane lane' hand hand' settled split held)
      (hand_on : HandWentOn hand' hand'') (lane_on : LaneWentOn lane' lane'')
      (pushed : lane''.pushed ≡ lane'.pushed) where
    before : IsRecord t path_of capacity board lane lane' hand hand' settled split None
    before = subst (λ (o : Option (Held E)).
        IsRecord t path_of capacity board lane lane' hand hand' settled split o) none so_far

    -- a turn without a task
    pub idle_turn : ((h : List ℕ → ℕ) → took h lane'' hand'' ≡ took h lane' hand')
        → IsRecord t path_of capacity board lane lane'' hand hand'' settled split held
    idle_turn same = subst (λ (o : Option (Held E)). IsRecord t path_of capacity board lane lane''
        hand hand'' settled split o) (sym none) (record {
          taken = (λ h. same h ∙ before.taken h);
          pushed = pushed ∙ before.pushed;
          leaves = before.leaves;
          inner = before.inner;
          fits = tt;
          lane_on = lane_trans lane lane' lane'' before.lane_on lane_on;
          hand_on = went_on_trans hand hand' hand'' before.hand_on hand_on;
        })

    module _ (task : BoxTask E) (more : (h : List ℕ → ℕ)
        → took h lane'' hand'' ≡ took h lane' hand' + h task.path) (lane''' : Lane)
        (settled' : List Leaf) (split' : List (List ℕ)) (held' : Option (Held E)) where
      abbrev After : List Leaf → List (List ℕ) → Option (Held E) → Type 0
      After s p o = IsRecord t path_of capacity board lane lane''' hand hand'' s p o

      together : (ps : List (List ℕ)) → Pushes lane'' lane''' ps → (q : List (List ℕ))
          → children_of_all t split ++ ps ≡ q → lane'''.pushed ≡ lane.pushed ++ q
      together ps x q e = x.pushed ∙ ap (λ (l : List (List ℕ)). l ++ ps) (pushed ∙ before.pushed
          ∙ ap (λ (l : List (List ℕ)). lane.pushed ++ l) (append_none (children_of_all t split)))
          ∙ append_assoc lane.pushed (children_of_all t split) ps
          ∙ ap (λ (l : List (List ℕ)). lane.pushed ++ l) e

      weights : (ps : List (List ℕ))
          → Pushes lane'' lane''' ps → (h : List ℕ → ℕ) → took h lane''' hand''
          ≡ took h lane hand + (record_weight {E = E} h settled split None + h task.path)
      weights ps x h =
          let e : took h lane''' hand'' ≡ took h lane'' hand'' =
          ap (λ (l : _). weight_of h l + hand_took h hand'') x.takes in
          let a = more h in let b = before.taken h in omega arith

      -- a turn with a task
      pub turn : (f : Fate E) → IsFate t path_of capacity board lane'' lane''' task f
          → IsEntered settled split f settled' split' held' → After settled' split' held'
      turn (fate.Settled leaf) (is, leaf_of, x) (s, p, o) =
          let path : leaf.path ≡ task.path = ap (λ (l : Leaf). l.path) is in
          subst (λ z. After z split' held')
          (sym s) (subst (λ z. After (settled ++ leaf ∷ []) z held') (sym p)
          (subst (λ z. After (settled ++ leaf ∷ []) split z) (sym o) (record {
            taken = (λ h. let w = weights [] x h in
                let n = total_snoc (λ (l : Leaf). h l.path) settled leaf in
                let e : h leaf.path ≡ h task.path = ap h path in omega arith);
            pushed = together [] x (children_of_all t split ++ []) refl;
            leaves = All-push (IsLeafWithState t) settled leaf before.leaves
                (is ∙ ap (leaf_at t) (sym path), ap (child_count t) path ∙ leaf_of);
            inner = before.inner;
            fits = tt;
            lane_on =
                lane_trans lane lane'' lane''' (lane_trans lane lane' lane'' before.lane_on lane_on)
                (lane_pushes lane'' lane''' [] x);
            hand_on = went_on_trans hand hand' hand'' before.hand_on hand_on;
          })))
      turn (fate.Split path) (is, inner, x) (s, p, o) =
          subst (λ z. After z split' held') (sym s) (subst (λ z. After settled z held') (sym p)
          (subst (λ z. After settled (split ++ path ∷ []) z) (sym o) (record {
            taken = (λ h. let w = weights (children_of path (child_count t path)) x h in let n =
                total_snoc h split path in let e : h path ≡ h task.path = ap h is in omega arith);
            pushed = together (children_of path (child_count t path)) x
                (children_of_all t (split ++ path ∷ []) ++ [])
                (sym (append_none (children_of_all t (split ++ path ∷ []))
                ∙ children_snoc t split path));
            leaves = before.leaves;
            inner = All-push (λ (q : List ℕ). 0 < child_count t q) split path before.inner inner;
            fits = tt;
            lane_on =
                lane_trans lane lane'' lane''' (lane_trans lane lane' lane'' before.lane_on lane_on)
                (lane_pushes lane'' lane''' (children_of path (child_count t path)) x);
            hand_on = went_on_trans hand hand' hand'' before.hand_on hand_on;
          })))
      turn (fate.Held b) (is, fits, x) (s, p, o) =
          let path : b.task.path ≡ task.path = ap (λ (k : BoxTask E). k.path) is in
          subst (λ z. After z split' held') (sym s) (subst (λ z. After settled z held') (sym p)
          (subst (λ z. After settled split z) (sym o) (record {
            taken = (λ h. let w = weights (children_of task.path b.pushed) x h in
                let e : h b.task.path ≡ h task.path = ap h path in omega arith);
            pushed = together (children_of task.path b.pushed) x
                (children_of_all t split ++ children_of b.task.path b.pushed)
                (ap (λ (q : List ℕ). children_of_all t split ++ children_of q b.pushed) (sym path));
            leaves = before.leaves;
            inner = before.inner;
            fits = fits;
            lane_on =
                lane_trans lane lane'' lane''' (lane_trans lane lane' lane'' before.lane_on lane_on)
                (lane_pushes lane'' lane''' (children_of task.path b.pushed) x);
            hand_on = went_on_trans hand hand' hand'' before.hand_on hand_on;
          })))

pub if_none : {X : Type 0} (o : Option X) (P : Type 0) → P → IfNone o P
if_none None P p = p
if_none (Some x) P p = tt

pub none_of : {X : Type 0} (o : Option X) → false ≡ is_some o → o ≡ None
none_of None e = refl
none_of (Some x) e = cc
