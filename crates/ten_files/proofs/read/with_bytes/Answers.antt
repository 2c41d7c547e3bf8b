use Rattle.std.proofs.Common.{◌≡◌, ◌≤◌, ◌<◌, ◌+◌, ◌-◌, ◌*◌, ◌/◌, ◌%◌, ◌^◌, length, arith}
use Rattle.ten_files.proofs.Bytes.{positive, room, shifted}
use Rattle.ten_files.proofs.read.with_bytes.Goals as goal

pub overflow_mul-number : goal.overflow_mul-number
overflow_mul-number c =
    let g = length c.args.got.now in
    let n = (c.args.width + 7) / 8 in
    let few : g ≤ n = c.requires.few in
    let most : n ≤ 16 = omega (arith, c.requires.narrow) in
    let some : 0 < g = positive g c.if-is_empty.ensures in
    let all = room c.number.result c.args.value g n c.number.ensures.below few most in
    rw (shifted (8 * (n - g)) (omega (arith, some, most))) (omega (arith, all))

pub overflow_add-number : goal.overflow_add-number
overflow_add-number c =
    let g = length c.args.got.now in
    let n = (c.args.width + 7) / 8 in
    let few : g ≤ n = c.requires.few in
    let most : n ≤ 16 = omega (arith, c.requires.narrow) in
    let some : 0 < g = positive g c.if-is_empty.ensures in
    let all = room c.number.result c.args.value g n c.number.ensures.below few most in
    rw (shifted (8 * (n - g)) (omega (arith, some, most))) (omega (arith, all))
