use Rattle.std.proofs.Common.{map}
use Rattle.ten_form.specs.vl_design.specs.Trees.{row_of}
use Rattle.cell_emit.specs.cell_form.specs.Views.{list_of}
use Rattle.cell_waves.proofs.Reading.{read-longer, read-slots}
use Rattle.cell_waves.proofs.read.read_one.Goals as goal

pub returns-clause-longer : goal.returns-clause-longer
returns-clause-longer c =
    read-longer (map row_of c.args.signals.now) c.args.store c.word_width-width.result c.in_ok-enable.enable c.in_ok-word.word c.in_ok-value.value c.in_ok-mask.mask (list_of c.args.cells.now) (list_of c.register.new.cells)
    (list_of c.register-2.new.cells) (list_of c.register-3.new.cells) (list_of c.register-4.new.cells) c.word_width-width.ensures.is c.in_ok-enable.ensures.gives c.in_ok-word.ensures.gives c.in_ok-value.ensures.gives
    c.in_ok-mask.ensures.gives

pub returns-clause-read : goal.returns-clause-read
returns-clause-read c =
    read-slots (map row_of c.args.signals.now) c.args.store c.word_width-width.result c.in_ok-enable.enable c.in_ok-word.word c.in_ok-value.value c.in_ok-mask.mask (list_of c.args.cells.now) (list_of c.register.new.cells)
    (list_of c.register-2.new.cells) (list_of c.register-3.new.cells) (list_of c.register-4.new.cells) c.word_width-width.ensures.is c.in_ok-enable.ensures.gives c.in_ok-word.ensures.gives c.in_ok-value.ensures.gives
    c.in_ok-mask.ensures.gives
