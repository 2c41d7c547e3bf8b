use Rattle.std.proofs.Common.{map, ◌∙◌}
use Rattle.std.specs.String.{string_bytes}
use Rattle.clap.specs.Words.{app_of}
use Rattle.host_run.proofs.Parsing.{matched, parsed, taken}
use Rattle.host_run.proofs.matches.command_in_words.Goals as goal

pub returns-in-Ok-clause-command : goal.returns-in-Ok-clause-command
returns-in-Ok-clause-command c = λ said e.
    let words = map string_bytes c.args.words.now in
    let k = matched words said e in
    c.command_in_matches.ensures k.verb k.word (parsed (app_of c.in_ok-parser.field-0) words c.in-Ok.matches said c.in_ok-parser.ensures c.in-Ok.ensures.matches k) ∙ k.by

pub returns-in-Err-clause-memory : goal.returns-in-Err-clause-memory
returns-in-Err-clause-memory c = λ some. c.in-Err.ensures.passes (taken (app_of c.in_ok-parser.field-0) (map string_bytes c.args.words.now) c.in_ok-parser.ensures some)
