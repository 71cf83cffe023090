use Rattle.std.proofs.Common.{rules, ◌≡◌, ◌++◌, ◌∷◌, [], Some, None, map, string_bytes, ap, sym}
use Rattle.std.proofs.Common.{subst, ◌∙◌, arith}
use Rattle.std.proofs.lemmas.List.{map-append}
use Rattle.std.proofs.lemmas.Str.Pattern.{split_once_first}
use Rattle.name_list.specs.Lists.{lines_of}
use Rattle.name_list.proofs.First.{name_more, last_name, no_last}
use Rattle.name_list.proofs.names.names_of.Goals as goal

pub loop-name-preserved : goal.loop-name-preserved
loop-name-preserved c =
    let rest = c.loop-name.rest.now in
    let parts = split_once_first 10 rest
    (Some (c.in-Some.name, c.in-Some.later)) c.in-Some.ensures.cases (omega arith) in
    let named = ap (map string_bytes) c.in_ok-push.ensures.items
    ∙ map-append string_bytes c.loop-name.names.items (c.in_ok-owned.owned ∷ [])
    ∙ ap (λ n. map string_bytes c.loop-name.names.items ++ n ∷ []) c.in_ok-owned.ensures.ok in (
      search rules,
      subst (λ ns. ns ++ lines_of c.in-Some.later.now ≡ lines_of c.args.text.now) (sym named)
          (name_more (map string_bytes c.loop-name.names.items) rest c.in-Some.name.now
          c.in-Some.later.now c.args.text.now c.loop-name.invariant.1 parts.1 parts.2 parts.0),
    )

pub returns-then-rest-eq0 : goal.returns-then-rest-eq0
returns-then-rest-eq0 c = no_last (map string_bytes c.loop-name.names.items)
    c.loop-name.rest.now c.args.text.now c.loop-name.invariant.1 c.if-rest-eq0.true

pub returns : goal.returns
returns c =
    let rest = c.loop-name.rest.now in
    let all = split_once_first 10 rest None c.in_default.ensures.cases (omega arith) in
    let named = ap (map string_bytes) c.in_ok-push-2.ensures.items
    ∙ map-append string_bytes c.loop-name.names.items (c.in_ok-last.last ∷ [])
    ∙ ap (λ n. map string_bytes c.loop-name.names.items ++ n ∷ []) c.in_ok-last.ensures.ok in
    named ∙ last_name (map string_bytes c.loop-name.names.items)
    rest c.args.text.now c.loop-name.invariant.1 all c.if-rest-eq0.false
