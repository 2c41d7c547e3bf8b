use Rattle.std.proofs.Common.{◌∙◌, ap, sym}
use Rattle.std.specs.Prelude.{None, if◌then◌else◌}
use Rattle.vl_base.specs.Files.{free_slot, opened_at}
use Rattle.ten_files.specs.Tables.{open_files}
use Rattle.ten_files.proofs.Names.{contents-not_there, contents-there, name_at-number}
use Rattle.ten_files.proofs.table.Table.open_file.Goals as goal

pub returns-in-None-clause-table : goal.returns-in-None-clause-table
returns-in-None-clause-table c =
    let table = open_files c.args.files.now c.args.self.now in
    let name = c.args.name.now in
    sym (ap (λ there. (opened_at table name (if there then free_slot table else None)).table)
    (contents-not_there c.args.files.now name c.in-None.ensures.number))

pub returns-in-None-clause-answer : goal.returns-in-None-clause-answer
returns-in-None-clause-answer c =
    let table = open_files c.args.files.now c.args.self.now in
    let name = c.args.name.now in
    sym (ap (λ there. (opened_at table name (if there then free_slot table else None)).answer)
    (contents-not_there c.args.files.now name c.in-None.ensures.number))

pub returns-in-Some-clause-table : goal.returns-in-Some-clause-table
returns-in-Some-clause-table c =
    let files = c.args.files.now in
    let table = open_files files c.args.self.now in
    let name = c.args.name.now in
    c.open_number.ensures.table files
    ∙ ap (λ name. (opened_at table name (free_slot table)).table)
    (name_at-number files name c.in-Some.file c.in-Some.ensures.number)
    ∙ sym (ap (λ there. (opened_at table name (if there then free_slot table else None)).table)
    (contents-there files name c.in-Some.file c.in-Some.ensures.number))

pub returns-in-Some-clause-answer : goal.returns-in-Some-clause-answer
returns-in-Some-clause-answer c =
    let files = c.args.files.now in
    let table = open_files files c.args.self.now in
    let name = c.args.name.now in
    c.open_number.ensures.answer files
    ∙ ap (λ name. (opened_at table name (free_slot table)).answer)
    (name_at-number files name c.in-Some.file c.in-Some.ensures.number)
    ∙ sym (ap (λ there. (opened_at table name (if there then free_slot table else None)).answer)
    (contents-there files name c.in-Some.file c.in-Some.ensures.number))
