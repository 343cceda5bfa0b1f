-- What a refusal is, and how it is printed. Assumes nothing.
use Rattle.std.specs.Prelude.{ℕ, List, ◌++◌, codes, decimal}
use Rattle.fault.specs.declared.Layer.{Layer}
use Rattle.fault.specs.declared.Layer.TheVariants.{Text, Build, Store, Bench}
use Rattle.fault.specs.declared.Refusal.{Refusal}

-- the layer's name
abbrev pub layer_name : Layer → List ℕ
layer_name Text = codes "TEXT"
layer_name Build = codes "BUILD"
layer_name Store = codes "STORE"
layer_name Bench = codes "BENCH"

-- the line that tells a refusal: its number, place and layer, one space between
abbrev pub refusal_line : Refusal → List ℕ
refusal_line r = codes "REFUSED " ++ (decimal r.number ++ (codes " " ++ (decimal r.place ++ (codes " " ++ layer_name r.layer))))

-- a refusal of a layer, which has no place in the text
abbrev pub layer_refusal : Layer → ℕ → Refusal
layer_refusal layer n = record { number = n; place = 0; layer = layer }
