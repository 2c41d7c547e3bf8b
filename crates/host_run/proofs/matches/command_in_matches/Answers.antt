use Rattle.std.proofs.Common.{◌≡◌, ap₂, ◌∙◌}
use Rattle.clap.specs.Words.{found_of}
use Rattle.host_run.specs.Words.{command_by}
use Rattle.host_run.proofs.Parsing.{some-same, value-of-matches}
use Rattle.host_run.proofs.matches.command_in_matches.Goals as goal

pub returns-in_err-word : goal.returns-in_err-word
returns-in_err-word c = λ verb word h.
    let its = value-of-matches c.args.matches.now verb word c.in_ok-verb.verb.now (found_of c.in_ok-verb.matched.now) h c.in_ok-verb.ensures.name c.in_ok-verb.ensures.rows in
    let none = c.in_err-word.ensures ∙ its.1 in
    absurd cc

pub returns : goal.returns
returns c = λ verb word h.
    let its = value-of-matches c.args.matches.now verb word c.in_ok-verb.verb.now (found_of c.in_ok-verb.matched.now) h c.in_ok-verb.ensures.name c.in_ok-verb.ensures.rows in
    let here : c.in_ok-word.word.now ≡ word = some-same (c.in_ok-word.ensures ∙ its.1) in
    c.command_by.ensures ∙ ap₂ command_by (c.as_bytes.ensures.value ∙ its.0) here
