use Rattle.std.proofs.Common.{arith}
use Rattle.database.proofs.Indexes.{index_found}
use Rattle.database.proofs.rows.NamedBits.of.Goals as goal

pub symbol_number-requires : goal.symbol_number-requires
symbol_number-requires c = record {
  small = λ k is.
      let below = index_found c.args.text.now c.args.items.now c.args.standing c.args.reference.name c.symbol_at-found.result c.symbol_at-found.ensures k is in
      omega arith;
}
