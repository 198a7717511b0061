use Rattle.std.proofs.Common.{◌≡◌, ℕ, ◌+◌, ◌-◌, ◌*◌, ◌<◌, ◌≤◌, ◌++◌, ◌∷◌, [], List, Bor, Iter, map, true, length, rules, tests, arith, sym, refl, ap, ◌∙◌, subst}
use Rattle.std.specs.Str.Parse.{digits_value}
use Rattle.std.specs.Iterator.{Yields, AlwaysYields}
use Rattle.std.proofs.lemmas.List.{length-append, map_push}
use Rattle.std.proofs.lemmas.Fn.{fold_over, serves_by, fronts, slice_gives}
use Rattle.words.specs.Texts.{all_digits}
use Rattle.words.proofs.Amounts.{digit_bounds, digits_front, value_few, value_push}
use Rattle.words.proofs.spelled.amount.Goals as goal

-- What is left behind the items that came.
left : (s t : Iter ℕ) (xs : List (Bor ℕ)) → Yields fronts s xs t → s.rest.now ≡ map (λ (y : Bor ℕ). y.now) xs ++ t.rest.now
left s t [] e = ap (λ (i : Iter ℕ). i.rest.now) e
left s t (x ∷ xs) (u, e, y) = e ∙ ap (λ zs. x.now ∷ zs) (left u t xs y)

-- The number so far, of five digits at most.
abbrev So : List ℕ → ℕ → Type 0
So ys n = all_digits ys ≡ true → length ys ≤ 5 → n ≡ digits_value 10 ys

so_more : (ys : List ℕ) (b n m : ℕ) → So ys n → m ≡ 10 * n + (b - 48) → So (ys ++ b ∷ []) m
so_more ys b n m so e all few =
    let p = digits_front ys b [] all in
    let l = length-append ys (b ∷ []) in
    omega (arith, e, so p.0 (omega arith), value_push ys b p.1)

pub fold-requires-clause-callable : goal.fold-requires-clause-callable
fold-requires-clause-callable c =
    let w = c.args.digits.now in
    serves_by _ (λ xs q. So (map (λ y. y.now) xs) q.1) (λ xs q x v j r. subst (λ ys. So ys v.1) (sym (map_push (λ (y : Bor ℕ). y.now) xs x)) (so_more (map (λ y. y.now) xs) x.now q.1 v.1 j (search (rules, tests)))) _ _ _ _ (λ e f. refl)
    (λ xs t q x u y e j.
    let ys = map (λ (z : Bor ℕ). z.now) xs in
    let all : w ≡ ys ++ x.now ∷ u.rest.now = sym c.iter.ensures.rest ∙ left c.iter.result t xs y ∙ ap (λ zs. ys ++ zs) e in
    let p = digits_front ys x.now u.rest.now (ap all_digits (sym all) ∙ c.requires.decimal) in
    let l : length ys ≤ 4 = omega (arith, ap length all, length-append ys (x.now ∷ u.rest.now), c.requires.few) in
    let b = digit_bounds x.now p.1 in
    let v = value_few ys 4 p.0 l in
    let n : q.1 < 10000 = omega (arith, j p.0 (omega arith), v) in
    search (rules, tests))

pub returns : goal.returns
returns c = fold_over fronts (λ y. y.now) _ So _ (λ ys a x b f' j k. (so_more ys x.now a b j (search (rules, tests)), search (rules, tests))) c.iter.result c.args.digits.now 0 c.fold.result (subst (λ xs. AlwaysYields fronts (λ y. y.now) c.iter.result xs) c.iter.ensures.rest (slice_gives c.iter.result)) (λ e f. refl) c.fold.ensures.ran c.requires.decimal c.requires.few
