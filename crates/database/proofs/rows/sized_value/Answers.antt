use Rattle.std.proofs.Common.{◌^◌, ◌<◌, ◌≤◌, sym, ◌∙◌, mod-eq_of_lt, arith, pow_mono}
use Rattle.database.proofs.rows.sized_value.Goals as goal

pub returns-else-n-lt16 : goal.returns-else-n-lt16
returns-else-n-lt16 c =
    let long : 16 ≤ c.args.n = omega arith in
    let power : 2 ^ 16 ≤ 2 ^ c.args.n = pow_mono long in
    let small : c.args.m < 2 ^ c.args.n = omega arith in
    c.from-else-n-lt16.ensures ∙ sym (mod-eq_of_lt small)
