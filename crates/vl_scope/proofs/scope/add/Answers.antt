use Rattle.std.proofs.Common.{◌≡◌, List, ℕ, Some, if◌then◌else◌, subst}
use Rattle.std.specs.Str.{bytes_eq}
use Rattle.vl_scope.specs.Declarations.{seen, with_declaration}
use Rattle.vl_scope.specs.Keys.{value_at}
use Rattle.vl_scope.proofs.Keys.{value_at-change}
use Rattle.vl_scope.proofs.scope.add.Goals as goal

pub returns : goal.returns
returns c = λ t.
    let declaration = seen c.args.declaration in
    let old = c.args.kinds.now in
    let new = c.insert.new.self in
    let made : Some c.with_declaration.result ≡ with_declaration (value_at old c.as_slice-name.result.now) declaration = cc (c.with_declaration.ensures, c.copied-known.ensures, c.get.ensures.value) in
    subst (λ (name : List ℕ). value_at new t ≡ (if bytes_eq t name then with_declaration (value_at old t) declaration else value_at old t)) c.as_slice-name.ensures
    (value_at-change old new c.as_slice-name.result.now c.with_declaration.result (λ o. with_declaration o declaration) c.in_ok-insert.ensures.updates made t)
