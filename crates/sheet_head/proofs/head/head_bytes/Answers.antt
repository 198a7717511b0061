use Rattle.std.proofs.Common.{◌≡◌, ℕ, ◌/◌, ◌%◌, ◌<◌, List, length, get_or, sym, ap, ◌∙◌, arith}
use Rattle.std.specs.List.{flat_map}
use Rattle.std.proofs.Math.Nat.{mod-eq_of_lt}
use Rattle.grammar_format.specs.Fields.{listed}
use Rattle.grammar_format.specs.Sheets.{wide}
use Rattle.grammar_format.proofs.Listed.{listed_getD}
use Rattle.sheet_head.proofs.head.head_bytes.Goals as goal

pub returns : goal.returns
unfolding listed
returns c =
    let ns = c.args.numbers in
    let six : length ns ≡ 6 = omega arith in
    let all : flat_map wide (listed (λ k. get_or ns k 0) 6) ≡ flat_map wide ns =
    ap (λ (n : ℕ). flat_map wide (listed (λ k. get_or ns k 0) n)) (sym six) ∙ ap (flat_map wide) (listed_getD ns 0)
    in
    let high : (n : ℕ) → n < 65536 → n / 256 % 256 ≡ n / 256 = λ n h. mod-eq_of_lt (omega arith) in
    let a = high (get_or ns 0 0) (omega arith) in
    let b = high (get_or ns 1 0) (omega arith) in
    let d = high (get_or ns 2 0) (omega arith) in
    let e = high (get_or ns 3 0) (omega arith) in
    let f = high (get_or ns 4 0) (omega arith) in
    let g = high (get_or ns 5 0) (omega arith) in
    simp (c.to_be_bytes.ensures, c.to_be_bytes-2.ensures, c.to_be_bytes-3.ensures, c.to_be_bytes-4.ensures, c.to_be_bytes-5.ensures, c.to_be_bytes-6.ensures, a, b, d, e, f, g) all
