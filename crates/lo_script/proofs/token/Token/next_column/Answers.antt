use Rattle.std.proofs.Common.{◌≡◌, ◌<◌, length, true, false, rules, arith}
use Rattle.lo_script.specs.ValueToken.{column_name, is_among}
use Rattle.lo_script.proofs.ValueTokens.{column_refused, column_taken}
use Rattle.lo_script.proofs.token.Token.next_column.Goals as goal

pub returns-then-has_column : goal.returns-then-has_column
returns-then-has_column c =
    let few : length c.args.so_far.now < 32 = omega (arith, c.if-so_far-ge-COLUMNS_LIMIT.false) in
    let among : is_among column_name c.args.so_far.now c.in_ok-column.column.name ≡ true = search rules in
    record { ok = tt; bad = rw c.refused-then-has_column.ensures (column_refused c.args.self.now.column c.args.self.now.column c.args.so_far.now c.args.self.now.text.now c.in_ok-column.column few c.in_ok-column.ensures.ok among) }

pub returns : goal.returns
returns c =
    let few : length c.args.so_far.now < 32 = omega (arith, c.if-so_far-ge-COLUMNS_LIMIT.false) in
    let new : is_among column_name c.args.so_far.now c.in_ok-column.column.name ≡ false = search rules in
    record { ok = column_taken c.args.self.now.column c.args.self.now.column c.args.so_far.now c.args.self.now.text.now c.in_ok-column.column few c.in_ok-column.ensures.ok new; bad = tt }
