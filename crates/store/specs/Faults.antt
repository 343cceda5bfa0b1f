-- What the refusals of a store are told as. Assumes nothing.
use Rattle.std.specs.Prelude.{ℕ, ◌<◌, ◌≤◌}
use Rattle.fault.specs.declared.Refusal.{Refusal}
use Rattle.fault.specs.Print.{layer_refusal}
use Rattle.fault.specs.declared.Layer.TheVariants.{Store}
use Rattle.store.specs.declared.faults.StoreFault.{StoreFault}
use Rattle.store.specs.declared.faults.StoreFault.TheVariants.{NoSuchPart, NoSuchOperand, Full, ShortTable}
use Rattle.store.specs.declared.faults.NewStoreFault.{NewStoreFault}
use Rattle.store.specs.declared.faults.NewStoreFault.TheVariants.{TooManyCells, OutOfMemory}

-- a refusal of the store's layer, which has no place in the text
abbrev pub store_refusal : ℕ → Refusal
store_refusal = layer_refusal Store

abbrev pub store_told : StoreFault → Refusal
store_told NoSuchPart = store_refusal 20
store_told NoSuchOperand = store_refusal 21
store_told Full = store_refusal 22
store_told ShortTable = store_refusal 23

-- no rule of the table speaks of a store that is not made
abbrev pub new_store_told : NewStoreFault → Refusal
new_store_told TooManyCells = store_refusal 0
new_store_told OutOfMemory = store_refusal 0

-- why a store of so many cells is not made
abbrev pub NotMade : ℕ → NewStoreFault → Type 0
NotMade cells TooManyCells = 1048576 < cells
NotMade cells OutOfMemory = cells ≤ 1048576
