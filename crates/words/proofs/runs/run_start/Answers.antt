use Rattle.std.proofs.Common.{◌≡◌, ◌+◌, ◌<◌, Bool, true, false, length, get_or, drop, sym, ap, ◌∙◌, subst, arith}
use Rattle.std.proofs.lemmas.List.{get_or-drop, length-drop, take_rest}
use Rattle.words.specs.Kinds.{Kinded}
use Rattle.words.specs.declared.kind.Kind.{Kind}
use Rattle.words.specs.declared.kind.Kind.TheVariants.{LineFeed, Hash, Blank}
use Rattle.words.proofs.ByteKinds.{word_kinds}
use Rattle.words.proofs.Scanning.{ahead, ahead_line_feed, ahead_hash, ahead_space, ahead_word}
use Rattle.words.proofs.runs.run_start.Goals.{in-LineFeed, in-Hash, in-Blank, in-Digit+else-not-remark}
use Rattle.words.proofs.runs.run_start.Goals as goal

pub loop-i-preserved : goal.loop-i-preserved
loop-i-preserved c =
    let xs = c.args.text.now in
    let p = c.args.place in
    let i = c.loop-i.i in
    let o = c.loop-i.remark in
    let r : c.in-Some.rest.now ≡ drop p xs = c.in-Some.ensures.lookup.0.2 ∙ take_rest xs p in
    let l : length c.in-Some.rest.now ≡ length (drop p xs) = ap length r in
    let h : p + i < length xs = omega (arith, length-drop p xs) in
    let e : get_or c.in-Some.rest.now i 0 ≡ get_or xs (p + i) 0 = ap (λ ys. get_or ys i 0) r ∙ get_or-drop p xs i 0 in
    let kind : (j : Kind) → Kinded j (get_or c.in-Some.rest.now i 0) → Kinded j (get_or xs (p + i) 0) = λ j k. subst (Kinded j) e k in
    let n : p + (i + 1) ≡ p + i + 1 = omega arith in
    let next = λ (b : Bool) (k : c.match-of.remark ≡ b) (f : ahead xs (p + i) o ≡ ahead xs (p + i + 1) b).
    ap (λ m. ahead xs m c.match-of.remark) n ∙ ap (ahead xs (p + i + 1)) k ∙ sym f ∙ c.loop-i.invariant in
    elim c.match-of.branch [
      | in-LineFeed w ↦ next false w.remark-is (ahead_line_feed xs (p + i) h o (kind LineFeed w.in-LineFeed.ensures))
      | in-Hash w ↦ next true w.remark-is (ahead_hash xs (p + i) h o (kind Hash w.in-Hash.ensures))
      | in-Blank w ↦ next o w.remark-is (ahead_space xs (p + i) h o (kind Blank w.in-Blank.ensures))
      | in-Digit+else-not-remark w ↦ next o w.remark-is (ahead_word xs (p + i) h o w.if-not-remark.false (word_kinds _ _ (kind c.of.result c.of.ensures) w.in-Digit.is))
    ]
