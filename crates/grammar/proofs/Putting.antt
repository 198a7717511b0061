-- Bytes put into a room one piece behind another.
use Rattle.std.proofs.Common.{◌≡◌, ℕ, ◌+◌, ◌<◌, ◌≤◌, ◌-◌, List, [], ◌∷◌, ◌++◌, map, length, get_or, take, drop, sym, refl, ap, ◌∙◌, subst, ap₂, subst₂, append_assoc, arith}
use Rattle.std.specs.List.{flat_map}
use Rattle.std.proofs.lemmas.List.{append-nil, length-append, length-take, length-take-le, length-drop, take_at, drop_at, drop_all, drop-drop, take_more, take_rest, flat_map_more}
use Rattle.grammar.specs.Writing.{Put}
use borrow.Rule.Slice.PartMut.{put_mid}

-- One piece more, behind what has been put.
pub put_more : (old mid new xs ys : List ℕ) (at : ℕ) → at ≤ length old → Put old at xs mid → Put mid (at + length xs) ys new
    → Put old at (xs ++ ys) new
put_more old mid new xs ys at h p q =
    let F = take at old ++ xs in
    let D = drop (at + length xs) old in
    let size : length F ≡ at + length xs = simp (length-append, length-take) (omega arith) in
    let whole : mid ≡ F ++ D = p ∙ sym (append_assoc (take at old) xs D) in
    let front : take (at + length xs) mid ≡ F = ap (take (at + length xs)) whole ∙ take_at F D (at + length xs) size in
    let rest : drop (at + length xs) mid ≡ D = ap (drop (at + length xs)) whole ∙ drop_at F D (at + length xs) size in
    let end : at + length xs + length ys ≡ at + length (xs ++ ys) = simp length-append (omega arith) in
    let back : drop (at + length xs + length ys) mid ≡ drop (at + length (xs ++ ys)) old =
    sym (drop-drop (length ys) (at + length xs) mid) ∙ ap (drop (length ys)) rest ∙ drop-drop (length ys) (at + length xs) old ∙ ap (λ (k : ℕ). drop k old) end
    in
    q ∙ ap₂ (λ (us vs : List ℕ). us ++ (ys ++ vs)) front back
    ∙ append_assoc (take at old) xs (ys ++ drop (at + length (xs ++ ys)) old)
    ∙ ap (λ (us : List ℕ). take at old ++ us) (sym (append_assoc xs ys (drop (at + length (xs ++ ys)) old)))

-- Bytes put to the front of the rest of a room, which begins at an offset.
pub put_behind : (old rest xs : List ℕ) (at : ℕ) → Put (take (length old - at) (drop at old)) 0 xs rest
    → Put old at xs (put_mid at (length old - at) old rest)
put_behind old rest xs at p =
    let n = length old - at in
    let back : drop (0 + length xs) (take n (drop at old)) ≡ drop (at + length xs) old =
    ap (λ (k : ℕ). drop k (take n (drop at old))) (omega arith) ∙ ap (drop (length xs)) (take_rest old at) ∙ drop-drop (length xs) at old
    in
    let none : drop n (drop at old) ≡ [] = drop_all n (drop at old) (omega (arith, length-drop at old)) in
    ap (λ (us : List ℕ). take at old ++ us)
    (ap (λ (us : List ℕ). rest ++ us) none ∙ append-nil rest ∙ p ∙ ap (λ (us : List ℕ). xs ++ us) back)

pub rest_size : (old : List ℕ) (at : ℕ) → length (take (length old - at) (drop at old)) ≡ length old - at
rest_size old at = ap length (take_rest old at) ∙ length-drop at old

pub put_size : (old rest : List ℕ) (at : ℕ) → at ≤ length old → length rest ≡ length (take (length old - at) (drop at old))
    → length (put_mid at (length old - at) old rest) ≡ length old
put_size old rest at h e =
    let past = drop (length old - at) (drop at old) in
    omega (
      arith,
      length-append (take at old) (rest ++ past),
      length-append rest past,
      length-take-le at old h,
      rest_size old at,
      length-drop (length old - at) (drop at old),
      length-drop at old,
    )

-- The pieces of a list, one element after another.
pub joined_next : {X : Type 0} (f : X → List ℕ) (xs : List X) (k : ℕ) (d : X) → k < length xs
    → flat_map f (take (k + 1) xs) ≡ flat_map f (take k xs) ++ f (get_or xs k d)
joined_next f xs k d h = ap (flat_map f) (take_more xs k d h) ∙ sym (flat_map_more f [] (take k xs) (get_or xs k d))

pub next_size : {X : Type 0} (f : X → List ℕ) (xs : List X) (k : ℕ) (d : X) → k < length xs
    → length (flat_map f (take (k + 1) xs)) ≡ length (flat_map f (take k xs)) + length (f (get_or xs k d))
next_size f xs k d h = ap length (joined_next f xs k d h) ∙ length-append (flat_map f (take k xs)) (f (get_or xs k d))

pub put_next : {X : Type 0} (f : X → List ℕ) (xs : List X) (k : ℕ) (d : X) (old mid new ys : List ℕ) (at off : ℕ) → at ≤ length old
    → k < length xs → off ≡ at + length (flat_map f (take k xs)) → ys ≡ f (get_or xs k d)
    → Put old at (flat_map f (take k xs)) mid → Put mid off ys new → Put old at (flat_map f (take (k + 1) xs)) new
put_next f xs k d old mid new ys at off h l e y p q =
    subst (λ (zs : List ℕ). Put old at zs new) (sym (joined_next f xs k d l))
    (put_more old mid new (flat_map f (take k xs)) (f (get_or xs k d)) at h p (subst₂ (λ (o : ℕ) (us : List ℕ). Put mid o us new) e y q))

pub joined_map : {X Y : Type 0} (f : Y → List ℕ) (g : X → Y) (xs : List X) → flat_map f (map g xs) ≡ flat_map (λ x. f (g x)) xs
joined_map f g [] = refl
joined_map f g (x ∷ xs) = ap (λ (ys : List ℕ). f (g x) ++ ys) (joined_map f g xs)
