-- The words that were taken, with the roles that were answered, are those of a script's leaves.
use Rattle.std.proofs.Common.{◌≡◌, ℕ, List, [], ◌∷◌, ◌++◌, length, take, drop, map, Option, Some}
use Rattle.std.proofs.Common.{None, refl, sym, ap, ◌∙◌, subst}
use Rattle.std.proofs.lemmas.List.{take-append-drop}
use Rattle.script_words.specs.Words.{Word, class_of}
use Rattle.script_shape.specs.declared.due.Due.{Due}
use Rattle.script_shape.specs.Tree.{BeginsScript}
use Rattle.script_shape.specs.Shape.{step, role_next, start}
use Rattle.script_shape.specs.Roles.{Leaf, at, script_leaves, HasRoles, leaves_of}
use Rattle.script_shape.specs.ShapeLaw.{RolesAreUnique, AreRolesOf, grown, roles_from}

grown_leaves : (o : Option Due)
    (w : Word) (s : Option (List Due)) (more : List Due → List Leaf) (rest : List Word)
    → ((left : List Due) → leaves_of (map (λ l. l.role) (more left)) rest ≡ more left)
    → leaves_of (map (λ l. l.role) (grown o w s more)) (w ∷ rest) ≡ grown o w s more
grown_leaves (Some r) w (Some left) more rest h = ap (λ ls. at r w ∷ ls) (h left)
grown_leaves (Some r) w None more rest h = refl
grown_leaves None w s more rest h = refl

-- the roles that the stack gives words are put back to the words
put_back : (ws rest : List Word) (left : List Due)
    → leaves_of (map (λ l. l.role) (roles_from ws left)) (ws ++ rest) ≡ roles_from ws left
unfolding roles_from
put_back [] rest left = refl
put_back (w ∷ ws) rest left = grown_leaves (role_next (class_of w) left) w (step (class_of w) left)
    (roles_from ws) (ws ++ rest) (put_back ws rest)

pub have_roles : (ws : List Word) (n : ℕ) (roles : List Due) → RolesAreUnique
    → BeginsScript (take n ws) → AreRolesOf ws n roles → HasRoles (take n ws) (leaves_of roles ws)
have_roles ws n roles unique b r =
    let leaves = take (length (take n ws)) (script_leaves b.tree) in
    let has : HasRoles (take n ws) leaves =
    record { tree = b.tree; words = (b.more, b.words); roles = refl } in
    let same : leaves ≡ roles_from (take n ws) start = unique (take n ws) leaves has in
    let told : roles ≡ map (λ l. l.role) (roles_from (take n ws) start) =
    sym (r leaves has) ∙ ap (map (λ l. l.role)) same in
    let put : leaves_of roles ws ≡ leaves =
    ap (λ rs. leaves_of rs ws) told
    ∙ ap (leaves_of (map (λ l. l.role) (roles_from (take n ws) start)))
    (sym (take-append-drop n ws)) ∙ put_back (take n ws) (drop n ws) start ∙ sym same in
    subst (HasRoles (take n ws)) (sym put) has
