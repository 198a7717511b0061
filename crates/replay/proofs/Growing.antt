-- A history that grows by one call at a turn.
use Rattle.std.proofs.Common.{◌≡◌, ℕ, zero, suc, ◌+◌, ◌<◌, min, List, [], ◌∷◌, ◌++◌, map, length, take, drop, get_or, slice_set, sym, refl, ap, ◌∙◌, subst, arith}
use Rattle.std.proofs.lemmas.List.{take_more, take_more_set, length-take-le, drop-set-lt, drop-drop, get_or-drop, map-append, length-map}
use Rattle.std.proofs.Math.Seq.{map-set_same}
use Rattle.std.proofs.Math.ListN.{get_or-map}
use native.Mathlib.Nat.{add-zero}
use Rattle.words.specs.Feeds.{Coming}
use Rattle.parsing.specs.Items.{Source}
use Rattle.states.specs.Sources.{Sourced}
use Rattle.histories.specs.Histories.{History, made, then}
use Rattle.histories.specs.Laws.{Law}
use Rattle.reader.specs.Readings.{Reading, held, Begins, Makes}
use Rattle.replay.specs.Chains.{Leads, begun, called}
use Rattle.replay.specs.Steps.{call_of, answer_of, history_on, history_of, asked, told_kind, kind_of, step_kind}
use Rattle.replay.specs.declared.step.Step.{Step}
use Rattle.replay.specs.declared.step.Told.{Told}
use Rattle.replay.proofs.Leading.{every_history}

module _ {F : Type 0} (coming : F → Coming) where
  history_push : (h : History) (ss : List (Step F)) (ts : List Told) (zs : List (Step F)) (s : Step F) (t : Told) (z : Step F)
      → length ss ≡ length ts → length ss ≡ length zs
      → history_on coming h (ss ++ s ∷ []) (ts ++ t ∷ []) (zs ++ z ∷ []) ≡ then (history_on coming h ss ts zs) (call_of coming s) (answer_of coming t z)
  history_push h [] [] [] s t z e f = refl
  history_push h [] [] (c ∷ zs) s t z e f = absurd (omega arith)
  history_push h [] (b ∷ ts) zs s t z e f = absurd (omega arith)
  history_push h (a ∷ ss) [] zs s t z e f = absurd (omega arith)
  history_push h (a ∷ ss) (b ∷ ts) [] s t z e f = absurd (omega arith)
  history_push h (a ∷ ss) (b ∷ ts) (c ∷ zs) s t z e f = history_push (then h (call_of coming a) (answer_of coming b c)) ss ts zs s t z (omega arith) (omega arith)

  history_all : (h : History) (n : ℕ) (ss : List (Step F)) (ts : List Told) (zs : List (Step F)) → n ≡ min (length ss) (length ts) → length zs ≡ length ss
      → history_on coming h (take n ss) (take n ts) (take n zs) ≡ history_on coming h ss ts zs
  history_all h zero [] ts zs e f = refl
  history_all h (suc n) [] ts zs e f = absurd (omega arith)
  history_all h zero (a ∷ ss) [] zs e f = refl
  history_all h (suc n) (a ∷ ss) [] zs e f = absurd (omega arith)
  history_all h zero (a ∷ ss) (b ∷ ts) zs e f = absurd (omega arith)
  history_all h (suc n) (a ∷ ss) (b ∷ ts) [] e f = absurd (omega arith)
  history_all h (suc n) (a ∷ ss) (b ∷ ts) (c ∷ zs) e f = history_all (then h (call_of coming a) (answer_of coming b c)) n ss ts zs (omega arith) (omega arith)

  -- The first i of the calls ss were made on a reading over s: ts are their answers, zs the calls as they were left, and r the reading.
  pub record Made {S : Type 0} (m : S → Source) (s : S) (ss : List (Step F)) (i : ℕ) (ts : List Told) (zs : List (Step F)) (r : Reading S) : Type 0 where
    pub leads : Leads m s (history_of coming (take i ss) (take i ts) (take i zs)) r
    pub rest : drop i zs ≡ drop i ss

  -- What the first i of the calls leave of the steps ss and the log us: ts of the log, zs of the steps.
  pub record Kept (ss : List (Step F)) (us : List Told) (i : ℕ) (ts : List Told) (zs : List (Step F)) : Type 0 where
    pub stays : map asked zs ≡ map asked ss
    pub kinds : map told_kind (take i ts) ≡ take i (map step_kind ss)
    pub log : drop i ts ≡ drop i us

  pub kept_none : (ss : List (Step F)) (us : List Told) → Kept ss us 0 us ss
  kept_none ss us = record { stays = refl; kinds = refl; log = refl }

  pub kept_more : (ss : List (Step F)) (us ts : List Told) (zs : List (Step F)) (i : ℕ) (d z : Step F) (t : Told) → i < length ss → i < length ts
      → asked z ≡ asked (get_or zs i d) → told_kind t ≡ step_kind z → Kept ss us i ts zs → Kept ss us (i + 1) (slice_set ts i t) (slice_set zs i z)
  kept_more ss us ts zs i d z t low room e q k =
      let there : asked (get_or zs i d) ≡ asked (get_or ss i d) = sym (get_or-map asked zs i d) ∙ ap (λ l. get_or l i (asked d)) k.stays ∙ get_or-map asked ss i d in
      let kind : told_kind t ≡ get_or (map step_kind ss) i (step_kind d) = q ∙ ap kind_of (e ∙ there) ∙ sym (get_or-map step_kind ss i d) in
      record {
        stays = map-set_same asked zs i z d e ∙ k.stays;
        kinds =
            ap (λ l. map told_kind l) (take_more_set ts i t room) ∙ map-append told_kind (take i ts) (t ∷ []) ∙ (λ j. k.kinds j ++ kind j ∷ [])
            ∙ sym (take_more (map step_kind ss) i (step_kind d) (simp length-map low));
        log = drop-set-lt (i + 1) ts i t (omega arith) ∙ sym (drop-drop 1 i ts) ∙ ap (drop 1) k.log ∙ drop-drop 1 i us;
      }

  module _ {S : Type 0} (m : S → Source) (s : S) (ss : List (Step F)) where
    pub made_none : (ts : List Told) (r : Reading S) → Begins s r → Made m s ss 0 ts ss r
    made_none ts r b = record { leads = begun b; rest = refl }

    pub made_more : (ts : List Told) (zs : List (Step F)) (i : ℕ) (r q : Reading S) (d z : Step F) (t : Told) → length zs ≡ length ss → i < length ss → i < length ts
        → Made m s ss i ts zs r → Makes m r (call_of coming (get_or zs i d)) (answer_of coming t z) q → Made m s ss (i + 1) (slice_set ts i t) (slice_set zs i z) q
    made_more ts zs i r q d z t long low room k o =
        let x : Step F = get_or zs i d in
        let there : get_or ss i d ≡ x = sym (ap (λ j. get_or ss j d) (add-zero i)) ∙ sym (get_or-drop i ss 0 d) ∙ ap (λ l. get_or l 0 d) (sym k.rest) ∙ get_or-drop i zs 0 d ∙ ap (λ j. get_or zs j d) (add-zero i) in
        let a : take (i + 1) ss ≡ take i ss ++ x ∷ [] = take_more ss i d low ∙ ap (λ y. take i ss ++ y ∷ []) there in
        let b : take (i + 1) (slice_set ts i t) ≡ take i ts ++ t ∷ [] = take_more_set ts i t room in
        let c : take (i + 1) (slice_set zs i z) ≡ take i zs ++ z ∷ [] = take_more_set zs i z (omega arith) in
        let la : length (take i ss) ≡ i = length-take-le i ss (omega arith) in
        let lb : length (take i ts) ≡ i = length-take-le i ts (omega arith) in
        let lc : length (take i zs) ≡ i = length-take-le i zs (omega arith) in
        let grown : history_of coming (take (i + 1) ss) (take (i + 1) (slice_set ts i t)) (take (i + 1) (slice_set zs i z))
        ≡ then (history_of coming (take i ss) (take i ts) (take i zs)) (call_of coming x) (answer_of coming t z) =
        (λ j. history_of coming (a j) (b j) (c j)) ∙ history_push made (take i ss) (take i ts) (take i zs) x t z (la ∙ sym lb) (la ∙ sym lc) in
        record {
          leads = subst (λ h. Leads m s h q) (sym grown) (called k.leads o);
          rest = drop-set-lt (i + 1) zs i z (omega arith) ∙ sym (drop-drop 1 i zs) ∙ ap (drop 1) k.rest ∙ drop-drop 1 i ss;
        }

    pub made_leads : (ts : List Told) (zs : List (Step F)) (i : ℕ) (r : Reading S) → i ≡ min (length ss) (length ts) → length zs ≡ length ss → Made m s ss i ts zs r
        → Leads m s (history_of coming ss ts zs) r
    made_leads ts zs i r e f k = subst (λ h. Leads m s h r) (history_all made i ss ts zs e f) k.leads

    pub made_law : ((x : S) → Sourced (m x)) → (ts : List Told) (zs : List (Step F)) (i : ℕ) (r : Reading S) → i ≡ min (length ss) (length ts) → length zs ≡ length ss
        → Made m s ss i ts zs r → Law (m s) (history_of coming ss ts zs) (held r)
    made_law law ts zs i r e f k = every_history m law s _ r (made_leads ts zs i r e f k)
