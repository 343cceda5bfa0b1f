-- Two arrays of 32 levels have room in memory where a working table has. Assumes nothing.
use Rattle.std.proofs.Common.{ℕ, ◌+◌, ◌*◌, ◌<◌, ◌≤◌, arith}
use Rattle.std.proofs.Math.Nat.{mul-le-mul_right}
use Prim.Native.Nat.{max}
use mir.Syntax.{Width, w8, w16, w32, w64, w128, Ty}
use mir.Val.{bytes}
use prog.Memory.{size, align, up}
use prog.Align.{align_w, align-bytes, align_pos}

-- no alignment is above 16
bytes_most : (w : Width) → bytes w ≤ 16
bytes_most w8 = omega arith
bytes_most w16 = omega arith
bytes_most w32 = omega arith
bytes_most w64 = omega arith
bytes_most w128 = omega arith

align_most : (τ : Ty) → align τ ≤ 16
align_most τ = omega (arith, align-bytes τ, bytes_most (align_w τ))

up_most : (k e : ℕ) → 1 ≤ k → k ≤ 16 → up k e ≤ e + 16
up_most k e one h = omega arith

pub joined_fits : (τ : Ty) (rows : ℕ) → 17472 ≤ rows → rows * size τ < 9223372036854775808
    → up (max (align τ) (max (align τ) 1)) (up (align τ) (up (align τ) 0 + 32 * size τ) + 32 * size τ) < 9223372036854775808
joined_fits τ rows h e =
    let most = align_most τ in
    let some = align_pos τ in
    let room : 17472 * size τ ≤ rows * size τ = mul-le-mul_right (size τ) h in
    let a = up_most (align τ) 0 some most in
    let b = up_most (align τ) (up (align τ) 0 + 32 * size τ) some most in
    let c = up_most (max (align τ) (max (align τ) 1)) (up (align τ) (up (align τ) 0 + 32 * size τ) + 32 * size τ) (omega arith) (omega arith) in
    omega arith
