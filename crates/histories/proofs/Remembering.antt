-- An open reading knows its limit and its kept words alone.
use Rattle.std.proofs.Common.{◌≡◌, ℕ, ◌⊎◌, List, [], ◌∷◌, ◌++◌, take, drop, None, Option, sym, refl, ap, ◌∙◌, subst, inl, inr, append_assoc, append-nil}
use Rattle.std.proofs.lemmas.List.{map-append, take-append-drop}
use Rattle.grammar.specs.declared.refusal.Refusal.{Refusal}
use Rattle.parsing.specs.Grammar.{Sentence}
use Rattle.parsing.specs.Items.{Source}
use Rattle.parsing.specs.Links.{bottom}
use Rattle.parsing.proofs.Theorems.{viable_prefixes}
use Rattle.words.specs.declared.word.Word.{Word}
use Rattle.states.specs.Sources.{Sourced}
use Rattle.histories.specs.Calls.{Held, closed, opened, Call, open_with, take_word, Answer, Reply, done, plain}
use Rattle.histories.specs.Meetings.{Meets, Fits}
use Rattle.histories.specs.Doings.{Limit, Passes, at_end, at_fault, word_no, word_yes}
use Rattle.histories.specs.Doings.{Does, open_range, open_crowded, open_done, take_closed, take_no, take_yes, through_closed, through_open}
use Rattle.histories.specs.Doings.{back_closed, back_beyond, back_done, judge_closed, judge_open}
use Rattle.histories.specs.Doings.{gather_closed, gather_none, gather_nodes, gather_alternatives, gather_done}
use Rattle.histories.specs.Histories.{History, made, then, Runs, runs_made, runs_then}
use Rattle.histories.specs.Laws.{Begins}
use Rattle.histories.specs.Continuations.{Exchange, calls_of, after, taken, Continues, stays, goes, takes, anew}
use Rattle.histories.specs.Statements.{NoMemory, Viable}
use Rattle.histories.proofs.Keeping.{runs_keeps, keeps_same}
use Rattle.histories.proofs.Answering.{determinacy}
use Rattle.histories.proofs.Sentences.{clash, taken_begins}

-- A front of no words, and of words with one more behind them.
front_none : (us vs : List ℕ) → [] ≡ us ++ vs → us ≡ []
front_none [] vs e = refl
front_none (u ∷ us) vs e = let z : ◌≡◌ {A = ℕ} 0 1 = cc in clash z

front_more : (ws : List ℕ) (t : ℕ) (us vs : List ℕ) → ws ++ t ∷ [] ≡ us ++ vs → (us ≡ ws ++ t ∷ []) ⊎ ((rest : List ℕ) × (ws ≡ us ++ rest))
front_more ws t [] vs e = inr (ws, refl)
front_more [] t (u ∷ us) vs e =
    let none : [] ≡ us ++ vs = cc in
    let same : u ≡ t = cc in
    inl (λ i. same i ∷ front_none us vs none i)
front_more (w ∷ ws) t (u ∷ us) vs e =
    let behind : ws ++ t ∷ [] ≡ us ++ vs = cc in
    let same : u ≡ w = cc in
    elim (front_more ws t us vs behind) [
      | inl q ↦ inl (λ i. same i ∷ q i)
      | inr (rest, q) ↦ inr (rest, λ i. sym same i ∷ q i)
    ]

after-append : (h : History) (xs ys : List Exchange) → after h (xs ++ ys) ≡ after (after h xs) ys
after-append h [] ys = refl
after-append h (x ∷ xs) ys = after-append (then h x.call x.answer) xs ys

taken-more : (n : ℕ) (ws : List ℕ) (t : ℕ) → anew n (ws ++ t ∷ []) ≡ then (anew n ws) (take_word t) (plain done)
taken-more n ws t =
    ap (after (then made (open_with n) (plain done))) (map-append taken ws (t ∷ []))
    ∙ after-append (then made (open_with n) (plain done)) (takes ws) (takes (t ∷ []))

-- What holds of no words, of words with one more that is taken, and of fronts.
record Lasting (src : Source) (P : ℕ → List ℕ → Type 0) : Type 0 where
  pub none : (n : ℕ) → Limit n → Fits src [] n → P n []
  pub more : (n t : ℕ) (ws : List ℕ) → P n ws → Meets src n ws t None → P n (ws ++ t ∷ [])
  pub back : (n : ℕ) (ws : List ℕ) (k : ℕ) → P n ws → P n (take k ws)

-- It holds of the kept words of an open reading.
module _ {src : Source} (P : ℕ → List ℕ → Type 0) (lasting : Lasting src P) where
  abbrev Holds : Held → Type 0
  Holds closed = Unit {0}
  Holds (opened n ws) = P n ws

  holds_through : {n : ℕ} {e : Option Refusal} {ws vs : List ℕ} {cs ds : List Word} {a : Reply} → P n ws → Passes src n e ws cs a vs ds → P n vs
  holds_through f (at_end x y) = f
  holds_through f (at_fault x) = f
  holds_through f (word_no x) = f
  holds_through f (word_yes x p) = holds_through (lasting.more _ _ _ f x) p

  holds_on : {m k : Held} {c : Call} {a : Answer} → Holds m → Does src m c a k → Holds k
  holds_on r (open_range x) = r
  holds_on r (open_crowded x y) = r
  holds_on r (open_done x y) = lasting.none _ x y
  holds_on r take_closed = tt
  holds_on r (take_no x) = r
  holds_on r (take_yes x) = lasting.more _ _ _ r x
  holds_on r through_closed = tt
  holds_on r (through_open p) = holds_through r p
  holds_on r back_closed = tt
  holds_on r (back_beyond x) = r
  holds_on r (back_done {k = k} x) = lasting.back _ _ k r
  holds_on r judge_closed = tt
  holds_on r (judge_open x) = r
  holds_on r gather_closed = tt
  holds_on r (gather_none x) = r
  holds_on r (gather_nodes x y) = r
  holds_on r (gather_alternatives x y z) = r
  holds_on r (gather_done x p q u v) = r

  held_so : {h : History} {m : Held} → Runs src h m → Holds m
  held_so runs_made = tt
  held_so (runs_then r d) = holds_on (held_so r) d

-- The reading can have been opened with this limit, and have taken each front of the words.
abbrev Fronts : Source → ℕ → List ℕ → Type 0
Fronts src n ws = (us vs : List ℕ) → ws ≡ us ++ vs → Runs src (anew n us) (opened n us)

-- The history h, and then the calls xs: they lead on from what h holds.
record Split (src : Source) (h : History) (xs : List Exchange) (k : Held) : Type 0 where
  pub between : Held
  pub runs : Runs src h between
  pub continues : Continues src between xs k

module _ {src : Source} where
  fronts_more : (n t : ℕ) (ws : List ℕ) → Fronts src n ws → Meets src n ws t None → Fronts src n (ws ++ t ∷ [])
  fronts_more n t ws f x us vs e =
      elim (front_more ws t us vs e) [
        | inl q ↦
            subst (λ z. Runs src (anew n z) (opened n z)) (sym q)
            (subst (λ z. Runs src z (opened n (ws ++ t ∷ []))) (sym (taken-more n ws t))
            (runs_then (f ws [] (sym (append-nil ws))) (take_yes x)))
        | inr (rest, q) ↦ f us rest q
      ]

  fronts : Lasting src (Fronts src)
  fronts = record {
    none = λ n x y us vs e.
        subst (λ z. Runs src (anew n z) (opened n z)) (sym (front_none us vs e)) (runs_then runs_made (open_done x y));
    more = fronts_more;
    back = λ n ws k f us vs e.
        f us (vs ++ drop k ws)
        (sym (take-append-drop k ws) ∙ ap (λ z. z ++ drop k ws) e ∙ append_assoc us vs (drop k ws));
  }

  as_taken : {h : History} {n : ℕ} {ws : List ℕ} → Runs src h (opened n ws) → Runs src (anew n ws) (opened n ws)
  as_taken {ws = ws} r = held_so (Fronts src) fronts r ws [] (sym (append-nil ws))

  -- What follows a history follows from what it holds.
  continues_runs : {h : History} {m k : Held} (xs : List Exchange) → Runs src h m → Continues src m xs k → Runs src (after h xs) k
  continues_runs [] r stays = r
  continues_runs (x ∷ xs) r (goes d c) = continues_runs xs (runs_then r d) c

  last_call : {h : History} {x : Exchange} {l k : Held} {xs : List Exchange}
      → Runs src (then h x.call x.answer) l → Continues src l xs k → Split src h (x ∷ xs) k
  last_call (runs_then {m = m} r d) c = record { between = m; runs = r; continues = goes d c }

  split : (h : History) (xs : List Exchange) {k : Held} → Runs src (after h xs) k → Split src h xs k
  split h [] {k} r = record { between = k; runs = r; continues = stays }
  split h (x ∷ xs) r = let s = split (then h x.call x.answer) xs r in last_call s.runs s.continues

  runs_same : {h : History} {m k : Held} → Runs src h m → Runs src h k → m ≡ k
  runs_same r s = keeps_same (runs_keeps r) (runs_keeps s)

  -- After a history that holds m.
  leads_on : {h : History} {m k : Held} (xs : List Exchange) → Runs src h m → Runs src (after h xs) k → Continues src m xs k
  leads_on {h} {m} {k} xs r s =
      let t = split h xs s in
      subst (λ z. Continues src z xs k) (runs_same t.runs r) t.continues

  continues_same : {m j k : Held} (xs ys : List Exchange) → calls_of xs ≡ calls_of ys
      → Continues src m xs j → Continues src m ys k → (xs ≡ ys) × (j ≡ k)
  continues_same [] [] e stays stays = (refl, refl)
  continues_same [] (y ∷ ys) e c d = let z : ◌≡◌ {A = ℕ} 0 1 = cc in clash z
  continues_same (x ∷ xs) [] e c d = let z : ◌≡◌ {A = ℕ} 0 1 = cc in clash z
  continues_same {m} {j} {k} (x ∷ xs) (y ∷ ys) e (goes {l = l} p c) (goes {l = o} q d) =
      let call : x.call ≡ y.call = cc in
      let rest : calls_of xs ≡ calls_of ys = cc in
      let (answer, same) = determinacy src m y.call x.answer y.answer l o (subst (λ z. Does src m z x.answer l) call p) q in
      let (all, held) = continues_same xs ys rest (subst (λ z. Continues src z xs j) same c) d in
      ((λ i. record { call = call i; answer = answer i } ∷ all i), held)

pub no_memory : NoMemory
no_memory src h n ws r =
    let t = as_taken r in
    record {
      there = t;
      same = λ xs k. ((λ s. continues_runs xs t (leads_on xs r s)), λ s. continues_runs xs r (leads_on xs t s));
      alike = λ xs ys j k e s u. continues_same xs ys e (leads_on xs r s) (leads_on ys t u);
    }

beginnings : {src : Source} → Sourced src → Lasting src (λ _ ws. Begins src.grammar ws)
beginnings {src} law = record {
  none = λ _ _ _. (viable_prefixes src law.well_formed law.lawful []).0 (src.first, bottom);
  more = λ _ _ _ _ x. taken_begins law x;
  back = λ _ ws k (b : Begins src.grammar ws).
      let whole : ws ++ b.0 ≡ take k ws ++ (drop k ws ++ b.0) =
      ap (λ z. z ++ b.0) (sym (take-append-drop k ws)) ∙ append_assoc (take k ws) (drop k ws) b.0 in
      (drop k ws ++ b.0, subst (Sentence src.grammar) whole b.1);
}

pub kept_words_begin : Viable
kept_words_begin src law h n ws r = held_so (λ _ us. Begins src.grammar us) (beginnings law) r
