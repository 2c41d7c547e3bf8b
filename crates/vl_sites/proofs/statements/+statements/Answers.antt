use Rattle.std.proofs.Common.{◌≡◌, map, List, OnOk, subst}
use Rattle.vl_sites.specs.Seen.{site_of}
use Rattle.vl_sites.specs.Sites.{Site}
use Rattle.vl_sites.proofs.Rows.{case-adds}
use Rattle.vl_sites.proofs.statements.+statements.Goals as goal

pub statement-returns-in_ok-expression-in-Case : goal.statement-returns-in_ok-expression-in-Case
statement-returns-in_ok-expression-in-Case t c =
    let f = c.in-Case in
    subst (λ (z : List Site). OnOk c.cases.result (map site_of c.cases.new.sites.items ≡ z))
    (case-adds c.args.a.now f.subject f.items f.field-2 c.as_slice-in-Case.result.now (map site_of c.args.sites.now.items) (map site_of c.expression-in-Case.new.sites.items) f.is c.as_slice-in-Case.ensures.value c.in_ok-expression-in-Case.ensures)
    c.cases.ensures
