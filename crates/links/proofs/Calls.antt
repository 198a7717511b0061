-- What the calls on links do, from what their parts do.
use Rattle.std.proofs.Common.{◌≡◌, ℕ, suc, ◌-◌, ◌<◌, ◌≤◌, [], length, Some, None, Ok, Err, Result, is_err, true, false, true≢false, sym, refl, ap, ◌∙◌, subst, arith, length-take-le}
use Rattle.parsing.specs.Items.{Source}
use Rattle.link_growth.specs.Growth.{Overfull, Shut, Stepped}
use Rattle.link_growth.specs.Closures.{Outgrows, StepsFrom}
use Rattle.links.specs.declared.links.Links.{Links}
use Rattle.links.specs.declared.table.Table.{Table}
use Rattle.links.specs.declared.fault.TooManyLinks.{TooManyLinks as Many}
use Rattle.links.specs.declared.fault.TakeFault.TheVariants.{TooManyLinks}
use Rattle.links.specs.Tables.{content, StartsAt, Along, Making, Begun, Cut}
use Rattle.links.specs.Holding.{Blank, Same, Back, Opened, opened_new, refused_new, opened_again, refused_again, Took, crowded, taken}
use Rattle.links.proofs.Contents.{long}
use Rattle.links.proofs.Places.{in_front, in_all}
use Rattle.links.proofs.Keeps.{grew, next_closure, next_outgrows, first_closure, first_fits, first_outgrows, undone, starts_once}

pub same_as : (l : Links) → Same l l
same_as l = record { links = refl; place = refl }

-- A table that is blank has no links.
pub blank_count : {l : Links} → Blank l → l.table.count ≡ 0
blank_count {l} b = sym (long l.table) ∙ ap length b.links

-- Going back.
pub went_back : (k : ℕ) (l m : Links) → k ≤ l.table.place → Cut k l.table m.table → Back k l m
went_back k l m le c = record {
  links = c.front ∙ sym (in_front l.table k m.table.count c.start);
  place = c.place ∙ omega arith;
}

pub stayed : (k : ℕ) (l : Links) → l.table.place ≤ k → Back k l l
stayed k l le = record { links = sym (in_all l.table k le); place = omega arith }

-- Opening a table that is not blank.
module _ (src : Source) (l : Links) (n limit : ℕ) (a : StartsAt l.table 1 n) (some : Blank l → ⊥) where
  pub again_refused : (f : Many) → limit < n → Opened src limit l (Err f) l
  again_refused f lt =
      let size = ap length (in_front l.table 0 n a) in
      let w = a.within in
      let all = long l.table in
      let front = length-take-le n (content l.table) (omega arith) in
      refused_again some (omega arith) (same_as l)

  pub again_opened : (m : Links) → n ≤ limit → Cut 0 l.table m.table → Opened src limit l (Ok tt) m
  again_opened m le c =
      let b : Back 0 l m = went_back 0 l m (omega arith) c in
      let same_start = starts_once c.start a in
      let all = long m.table in
      opened_again some b (omega arith)

-- Closing place 0 of a table that is blank.
module _ (src : Source) (n : ℕ) (l : Links) (b : Blank l) where
  pub begun : (m : Links) (r : Result (Unit {0}) Many) → is_err r ≡ false → Making src None l.table m.table n r (Shut src l.table.place (content m.table)) → Opened src n l r m
  begun m (Ok x) e (a, shut) =
      let fits = first_fits l.table b.links b.place a in
      let all = long m.table in
      opened_new b (first_closure l.table b.links b.place a shut) (omega arith) (a.kept.place ∙ b.place)
  begun m (Err x) e p = absurd (true≢false e)

  pub not_begun : (v m : Links) (r : Result (Unit {0}) Many) → is_err r ≡ true → content m.table ≡ [] → m.table.place ≡ 0
      → Making src None l.table v.table n r (Shut src l.table.place (content v.table)) → Opened src n l r m
  not_begun v m (Ok x) e links place p = absurd (true≢false (sym e))
  not_begun v m (Err x) e links place (a, over) =
      refused_new b (first_outgrows l.table b.links b.place over)
      (record { links = links ∙ sym b.links; place = place ∙ sym b.place })

-- Taking a word: the links that were made for the word y, over a source of the same meaning.
module _ (src : Source) (x : ℕ) (l : Links) (b : Table) (n limit : ℕ) (lt : l.table.place < 254) (word : x < src.grammar.terminals)
    (s : StepsFrom src (content l.table) l.table.place x) (be : Begun l.table b) (is : n ≡ limit)
    (made : Source) (y : ℕ) (meant : made ≡ src) (same_word : y ≡ x) where
  by_meaning : (P : Source → ℕ → Type 0) → P made y → P src x
  by_meaning P p = subst (λ v. P v x) meant (subst (λ v. P made v) same_word p)

  pub one_more : (m : Links) → Along made (Some y) b m.table n
      → Stepped made y b.place (b.place - 1) (content b) (content m.table) × Shut made b.place (content m.table) → Took src x limit l (Ok tt) m
  one_more m a done =
      let along = by_meaning (λ u v. Along u (Some v) b m.table n) a in
      let st = by_meaning (λ u v. Stepped u v b.place (b.place - 1) (content b) (content m.table)) done.0 in
      let shut = by_meaning (λ u v. Shut u b.place (content m.table)) done.1 in
      let fits = grew be along st s in
      let all = long m.table in
      taken lt word s (next_closure be along st shut) (omega arith) (a.kept.place ∙ be.place ∙ omega arith)

  pub too_many : (v : Table) (m : Links) → Along made (Some y) b v n → Overfull made (Some y) b.place (content b) n
      → Cut l.table.place v m.table → Took src x limit l (Err TooManyLinks) m
  too_many v m a o c =
      let r = undone be (by_meaning (λ u w. Along u (Some w) b v n) a) c (let p = be.place in let q = a.kept.place in omega arith) in
      let over = by_meaning (λ u w. Overfull u (Some w) b.place (content b) n) o in
      crowded refl lt word s (subst (λ z. Outgrows src (Some x) (suc l.table.place) (content l.table) z) is (next_outgrows be over))
      (record { links = r.0; place = r.1 })
