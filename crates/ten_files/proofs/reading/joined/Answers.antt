use Rattle.std.proofs.Common.{◌-◌, ◌*◌, length, arith}
use Rattle.ten_files.proofs.Bytes.{room, shifted}
use Rattle.ten_files.proofs.reading.joined.Goals as goal

pub overflow_mul-result : goal.overflow_mul-result
overflow_mul-result c =
    let g = length c.args.got.now in
    let n = c.args.size in
    let all = room c.number.result c.args.value g n c.number.ensures.below c.requires.few c.requires.most in
    rw (shifted (8 * (n - g)) (omega (arith, c.requires.some, c.requires.most))) (omega (arith, all))

pub overflow_add-result : goal.overflow_add-result
overflow_add-result c =
    let g = length c.args.got.now in
    let n = c.args.size in
    let all = room c.number.result c.args.value g n c.number.ensures.below c.requires.few c.requires.most in
    rw (shifted (8 * (n - g)) (omega (arith, c.requires.some, c.requires.most))) (omega (arith, all))
