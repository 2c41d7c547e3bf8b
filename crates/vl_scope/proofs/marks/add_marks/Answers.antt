use Rattle.std.proofs.Common.{◌≡◌, List, ℕ, if◌then◌else◌, subst}
use Rattle.std.specs.Str.{bytes_eq}
use Rattle.vl_scope.specs.Declarations.{seen}
use Rattle.vl_scope.specs.Marks.{marks_of, no_marks, either, marks_at}
use Rattle.vl_scope.proofs.Keys.{value_or-change}
use Rattle.vl_scope.proofs.marks.add_marks.Goals as goal

pub returns : goal.returns
returns c = λ t.
    let told = marks_of (seen c.args.declaration) in
    let old = c.args.known.now in
    let new = c.insert.new.self in
    let made : c.either.result ≡ either (marks_at old c.as_slice-name.result.now) told = cc (c.either.ensures, c.marks_of.ensures, c.marks_at-before.ensures) in
    subst (λ (name : List ℕ). marks_at new t ≡ (if bytes_eq t name then either (marks_at old t) told else marks_at old t)) c.as_slice-name.ensures
    (value_or-change old new c.as_slice-name.result.now c.either.result no_marks (λ m. either m told) c.in_ok-insert.ensures.updates made t)
