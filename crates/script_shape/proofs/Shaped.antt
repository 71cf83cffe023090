-- The loop over words, and what its answer means.
use Rattle.std.proofs.Common.{◌≡◌, ℕ, ◌+◌, ◌<◌, List, [], ◌∷◌, ◌++◌, length, take, drop, map}
use Rattle.std.proofs.Common.{Option, Some, None, option_and_then, Bool, true, false, refl, sym, ap}
use Rattle.std.proofs.Common.{◌∙◌, arith}
use Rattle.std.proofs.Math.Seq.{take-length}
use Rattle.std.proofs.lemmas.List.{take-append-drop, map-append, length_push}
use Rattle.script_words.specs.declared.class.Class.{Class}
use Rattle.script_words.specs.declared.class.Symbol.TheVariants as s
use Rattle.script_words.specs.Words.{Word, sign, class_of}
use Rattle.script_shape.specs.declared.due.Due.{Due}
use Rattle.script_shape.specs.Table.{takes, may_skip, role_of}
use Rattle.script_shape.specs.Shape.{after_top, step, role_at_top, role_next, run, start, may_end}
use Rattle.script_shape.specs.Roles.{Leaf, at}
use Rattle.script_shape.specs.ShapeLaw.{IsShapeOf, Steps, AreRolesOf, grown, roles_from}
use Rattle.script_shape.proofs.ShapeLaws.{run_on, refused_all, shape_is_exact}
use Rattle.script_shape.proofs.RoleLaws.{roles_unique}

-- what a number past the end of words would be read as
abbrev pub any_word : Word
any_word = sign s.In

pub single : (w : Word) (left : List Due) → run (w ∷ []) left ≡ step (class_of w) left
unfolding run
single w left = go (step (class_of w) left)
  where
    go : (o : Option (List Due)) → option_and_then (λ due. Some due) o ≡ o
    go None = refl
    go (Some next) = refl

-- The stack, the roles and their number after so many words.
pub record RunTo (ws : List Word) (i : ℕ) (left roles : List Due) : Type 0 where
  pub due : run (take i ws) start ≡ Some left
  pub taken : roles ≡ map (λ l. l.role) (roles_from (take i ws) start)
  pub count : length roles ≡ i

pub began : (ws : List Word) (left roles : List Due) → left ≡ start
    → roles ≡ [] → RunTo ws 0 left roles
unfolding run roles_from
began ws left roles e r = record { due = ap Some (sym e); taken = r; count = ap length r }

pub one_more : (ws : List Word) (i : ℕ) (w : Word) (left : List Due)
    → take (i + 1) ws ≡ take i ws ++ (w ∷ []) → run (take i ws) start ≡ Some left
    → run (take (i + 1) ws) start ≡ step (class_of w) left
one_more ws i w left h r = ap (λ l. run l start) h ∙ run_on (take i ws) (w ∷ []) start
    ∙ ap (option_and_then (run (w ∷ []))) r ∙ single w left

-- ---- one more role

-- where a token is taken, it has a role
has_role_top : (new : Option (List Due)) (skip : Bool) (r : Due) (rest next : List Due)
    (under : Option (List Due)) (below : Option Due) → after_top new skip rest under ≡ Some next
    → ((n : List Due) → under ≡ Some n → (x : Due) × (below ≡ Some x))
    → (x : Due) × (role_at_top new r below ≡ Some x)
has_role_top (Some new) skip r rest next under below h go = (r, refl)
has_role_top None true r rest next under below h go = go next h
has_role_top None false r rest next under below h go = cc h

has_role : (c : Class) (left next : List Due) → step c left ≡ Some next
    → (r : Due) × (role_next c left ≡ Some r)
unfolding step role_next
has_role c [] next h = cc h
has_role c (d ∷ rest) next h = has_role_top (takes d c) (may_skip d)
    (role_of d c) rest next (step c rest) (role_next c rest) h (λ n e. has_role c rest n e)

-- one more token adds its role
role_added : (o : Option Due)
    (w : Word) (s : Option (List Due)) (longer shorter : List Due → List Leaf) (last : Leaf)
    (after : List Due) (run_rest : List Due → Option (List Due)) → ((n : List Due)
    → s ≡ Some n → (x : Due) × (o ≡ Some x)) → option_and_then run_rest s ≡ Some after
    → ((mid : List Due) → run_rest mid ≡ Some after → longer mid ≡ shorter mid ++ (last ∷ []))
    → grown o w s longer ≡ grown o w s shorter ++ (last ∷ [])
role_added o w None longer shorter last after run_rest some h go = cc h
role_added None w (Some mid) longer shorter last after run_rest some h go =
    let n = some mid refl in cc n.1
role_added (Some x) w (Some mid) longer shorter last after run_rest some h go =
    ap (λ l. at x w ∷ l) (go mid h)

roles_on : (a : List Word) (w : Word) (from left new : List Due) (r : Due) → run a from ≡ Some left
    → step (class_of w) left ≡ Some new → role_next (class_of w) left ≡ Some r
    → roles_from (a ++ (w ∷ [])) from ≡ roles_from a from ++ (at r w ∷ [])
unfolding run roles_from
roles_on [] w from left new r h k e =
    let same : from ≡ left = cc in
    ap (λ x. grown (role_next (class_of w) x) w (step (class_of w) x) (λ _. [])) same
    ∙ ap (λ o. grown o w (step (class_of w) left) (λ _. [])) e
    ∙ ap (λ o. grown (Some r) w o (λ _. [])) k
roles_on (x ∷ a) w from left new r h k e =
    role_added (role_next (class_of x) from) x (step (class_of x) from)
    (roles_from (a ++ (w ∷ []))) (roles_from a) (at r w) left (run a)
    (has_role (class_of x) from) h (λ mid q. roles_on a w mid left new r q k e)

pub went_on : {ws : List Word} {i : ℕ} {left roles : List Due} → RunTo ws i left roles
    → (w : Word) → take (i + 1) ws ≡ take i ws ++ (w ∷ []) → (new : List Due) (r : Due)
    → (step (class_of w) left ≡ Some new) × (role_next (class_of w) left ≡ Some r)
    → (longer : List Due) → longer ≡ roles ++ (r ∷ []) → RunTo ws (i + 1) new longer
went_on {ws} {i} {left} {roles} m w h new r k longer e = record {
  due = one_more ws i w left h m.due ∙ k.0;
  taken = e ∙ ap (λ l. l ++ (r ∷ [])) m.taken
      ∙ sym (map-append (λ l. l.role) (roles_from (take i ws) start) (at r w ∷ []))
      ∙ ap (map (λ l. l.role)) (sym (roles_on (take i ws) w start left new r m.due k.0 k.1)
      ∙ ap (λ l. roles_from l start) (sym h));
  count = ap length e ∙ length_push roles r ∙ ap (λ n. n + 1) m.count;
}

-- ---- what the answers mean

pub stopped : (ws : List Word) (i : ℕ) (w : Word) (left : List Due)
    → i < length ws → take (i + 1) ws ≡ take i ws ++ (w ∷ []) → run (take i ws) start ≡ Some left
    → step (class_of w) left ≡ None → IsShapeOf ws i false
stopped ws i w left n h r k =
    let none : run (take (i + 1) ws) start ≡ None = one_more ws i w left h r ∙ k in
    record {
      within = omega arith;
      begins = shape_is_exact.begins (take i ws) left r;
      stops = λ lt. shape_is_exact.refused (take (i + 1) ws) none;
      whole = λ f. absurd (cc f);
      not_whole = λ f t. refused_all (take (i + 1) ws)
          (drop (i + 1) ws) t.0 none (t.1 ∙ sym (take-append-drop (i + 1) ws));
    }

pub all_taken : (ws : List Word) (n : ℕ) → n ≡ length ws → take n ws ≡ ws
all_taken ws n e = ap (λ k. take k ws) e ∙ take-length ws

pub ended : (ws : List Word) (n : ℕ) (left : List Due) (b : Bool) → n ≡ length ws
    → run (take n ws) start ≡ Some left → b ≡ may_end left → IsShapeOf ws n b
ended ws n left b e r k =
    let all : run ws start ≡ Some left = ap (λ l. run l start) (sym (all_taken ws n e)) ∙ r in
    record {
      within = omega arith;
      begins = shape_is_exact.begins (take n ws) left r;
      stops = λ lt. absurd (omega arith);
      whole = λ t. (e, shape_is_exact.whole ws left all (sym k ∙ t));
      not_whole = λ f. shape_is_exact.open_ended ws left all (sym k ∙ f);
    }

pub roles_are : {ws : List Word} {i : ℕ} {left roles : List Due}
    → RunTo ws i left roles → AreRolesOf ws i roles
roles_are {ws} {i} m leaves h =
    ap (map (λ l. l.role)) (roles_unique (take i ws) leaves h) ∙ sym m.taken

pub steps_none : (c : Class) (old new : List Due) (o : Option Due) → Steps c old o new
    → o ≡ None → step c old ≡ None
steps_none c old new (Some r) h e = cc e
steps_none c old new None h e = h

pub steps_some : (c : Class) (old new : List Due) (o : Option Due) (r : Due) → Steps c old o new
    → o ≡ Some r → (step c old ≡ Some new) × (role_next c old ≡ Some r)
steps_some c old new (Some x) r h e = (h.0, h.1 ∙ e)
steps_some c old new None r h e = cc e
