use Rattle.std.proofs.Common.{◌≡◌, ◌∙◌, sym, ap, rules}
use Rattle.std.specs.Str.{bytes_eq}
use Rattle.std.proofs.lemmas.Iterator.{YieldsList-from_slice}
use Rattle.std.proofs.lemmas.Iterator.Search.{position_from_yields_List}
use Rattle.vl_base.specs.Files.{number_of}
use Rattle.vl_base.proofs.files.FileSet.number.Goals as goal
use borrow.Author.Tests.{tests}

pub returns-in_err-place-clause-number : goal.returns-in_err-place-clause-number
returns-in_err-place-clause-number c =
    let found : c.position.result ≡ number_of c.deref.result.now c.args.name.now
    = position_from_yields_List (λ f. bytes_eq f.name c.args.name.now) _ _ c.position.result c.position.ensures.ran
    (YieldsList-from_slice _ c.iter.ensures.rest) (λ x b q k. search (rules, tests)) in
    c.from_residual.ensures ∙ sym c.in_err-place.was ∙ found
    ∙ ap (λ files. number_of files c.args.name.now) (c.deref.ensures.value ∙ c.self.view_is)

pub returns-clause-number : goal.returns-clause-number
returns-clause-number c =
    let found : c.position.result ≡ number_of c.deref.result.now c.args.name.now
    = position_from_yields_List (λ f. bytes_eq f.name c.args.name.now) _ _ c.position.result c.position.ensures.ran
    (YieldsList-from_slice _ c.iter.ensures.rest) (λ x b q k. search (rules, tests)) in
    sym c.in_ok-place.was ∙ found
    ∙ ap (λ files. number_of files c.args.name.now) (c.deref.ensures.value ∙ c.self.view_is)
