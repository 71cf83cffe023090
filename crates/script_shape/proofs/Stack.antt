-- The stack as it is kept, with the last thing due first.
use Rattle.std.proofs.Common.{◌≡◌, List, [], ◌∷◌, ◌++◌, reverse, Option, Some, None, Bool, true}
use Rattle.std.proofs.Common.{false, ◌&&◌, refl, sym, ap, ◌∙◌, append-nil}
use Rattle.std.proofs.lemmas.List.{reverse-append}
use Rattle.script_words.specs.declared.class.Class.{Class}
use Rattle.script_shape.specs.declared.due.Due.{Due}
use Rattle.script_shape.specs.Table.{takes, may_skip, role_of}
use Rattle.script_shape.specs.Shape.{after_top, step, may_end, role_at_top, role_next}

opened : (old rest : List Due) (top : Due) → old ≡ rest ++ (top ∷ [])
    → reverse old ≡ top ∷ reverse rest
opened old rest top e = ap reverse e ∙ reverse-append rest (top ∷ [])

step_at : (c : Class) (old rest : List Due) (top : Due) (new : Option (List Due)) (skip : Bool)
    → old ≡ rest ++ (top ∷ []) → takes top c ≡ new → may_skip top ≡ skip
    → step c (reverse old) ≡ after_top new skip (reverse rest) (step c (reverse rest))
unfolding step
step_at c old rest top new skip e h k =
    ap (step c) (opened old rest top e)
    ∙ ap (λ n. after_top n (may_skip top) (reverse rest) (step c (reverse rest))) h
    ∙ ap (λ b. after_top new b (reverse rest) (step c (reverse rest))) k

pub step_takes : (c : Class) (old rest pushed : List Due) (top : Due) → old ≡ rest ++ (top ∷ [])
    → takes top c ≡ Some (reverse pushed) → step c (reverse old) ≡ Some (reverse (rest ++ pushed))
step_takes c old rest pushed top e h =
    step_at c old rest top (Some (reverse pushed)) (may_skip top) e h refl
    ∙ ap Some (sym (reverse-append rest pushed))

pub step_refuses : (c : Class) (old rest : List Due) (top : Due) → old ≡ rest ++ (top ∷ [])
    → takes top c ≡ None → may_skip top ≡ false → step c (reverse old) ≡ None
step_refuses c old rest top e h k = step_at c old rest top None false e h k

pub step_skips : (c : Class) (old rest : List Due) (top : Due) → old ≡ rest ++ (top ∷ [])
    → takes top c ≡ None → may_skip top ≡ true → step c (reverse old) ≡ step c (reverse rest)
step_skips c old rest top e h k = step_at c old rest top None true e h k

pub step_at_nothing : (c : Class) (old rest : List Due) → old ≡ rest ++ [] → rest ≡ []
    → step c (reverse old) ≡ None
unfolding step
step_at_nothing c old rest e k = ap (λ l. step c (reverse l)) (e ∙ append-nil rest ∙ k)

pub end_at : (old rest : List Due) (top : Due) (skip : Bool) → old ≡ rest ++ (top ∷ [])
    → may_skip top ≡ skip → may_end (reverse old) ≡ (skip && may_end (reverse rest))
unfolding may_end
end_at old rest top skip e k =
    ap may_end (opened old rest top e) ∙ ap (λ b. b && may_end (reverse rest)) k

pub end_at_nothing : (old rest : List Due) → old ≡ rest ++ [] → rest ≡ []
    → may_end (reverse old) ≡ true
unfolding may_end
end_at_nothing old rest e k = ap (λ l. may_end (reverse l)) (e ∙ append-nil rest ∙ k)

role_at : (c : Class) (old rest : List Due) (top : Due) (new : Option (List Due))
    → old ≡ rest ++ (top ∷ []) → takes top c ≡ new
    → role_next c (reverse old) ≡ role_at_top new (role_of top c) (role_next c (reverse rest))
unfolding role_next
role_at c old rest top new e h = ap (role_next c) (opened old rest top e)
    ∙ ap (λ n. role_at_top n (role_of top c) (role_next c (reverse rest))) h

pub role_takes : (c : Class) (old rest pushed : List Due) (top : Due) → old ≡ rest ++ (top ∷ [])
    → takes top c ≡ Some (reverse pushed) → role_next c (reverse old) ≡ Some (role_of top c)
role_takes c old rest pushed top e h = role_at c old rest top (Some (reverse pushed)) e h

pub role_skips : (c : Class) (old rest : List Due) (top : Due) → old ≡ rest ++ (top ∷ [])
    → takes top c ≡ None → role_next c (reverse old) ≡ role_next c (reverse rest)
role_skips c old rest top e h = role_at c old rest top None e h
