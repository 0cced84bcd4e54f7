-- The buffer filled line by line.
-- Assumes nothing.
use Prim.Native.Nat.{ℕ, ◌+◌, ◌-◌, ◌/◌, ◌%◌, ◌≤◌, ◌<◌}
use native.Mathlib.Omega.{arith}
use mathlib.Core.Path.{◌≡◌, refl, sym, ap, subst, ◌∙◌}
use mathlib.Core.Logic.{◌⊎◌, inl, inr, ⊎_elim, ◌↔◌}
use mathlib.Core.Bool.{Bool, true, false, cond}
use mathlib.Core.List.{List, [], ◌∷◌, ◌++◌, append-nil, append_assoc}
use lib.ListN.{length, take, drop, length-append, length-map, length-take, length-drop}
use lib.Seq.{length-take-le, take_at, drop_at, take-add, drop-drop, drop-append-le, drop-append-add, take-append-le}
use lib.Dec.{ltb, eqb}
use borrow.Author.Tests.{eqb-true, eqb-false}
use Rattle.lists.proofs.Bools.{decide}
use Rattle.network.specs.Networks.{Network}
use Rattle.tables.specs.Rows.{net_of, gates_held}
use Rattle.lines.specs.declared.Due.{Due}
use Rattle.lines.specs.declared.Due.TheVariants as D
use Rattle.lines.specs.Listings.{line, character, plan_text}
use Rattle.lines.specs.Puts.{Put}
use Rattle.lists.proofs.Lists.{Copied, nil-of-length, copied_none, copied-length, take_rest, drop-rest}
use Rattle.lines.proofs.Puts.{copied-end, put-copied}
use Rattle.listing_state.specs.declared.Lister.{Lister}
use Rattle.listing_state.specs.declared.Filled.{Filled}
use Rattle.listing_state.specs.Pending.{line_of, lines_after, plan_in_hand, rest_of, pending_of, state_net, pending, Filling}
use Rattle.listing_state.specs.Parts.{Turned}

-- n bytes of what is to be printed in l stand in the buffer; the others are to be printed in the state.
pub record Printing (l : Lister) (kinds a b out out' : List ℕ) (state : Lister) (n : ℕ) : Type 0 where
  pub basins-kept : state.basins ≡ l.basins
  pub laid : Copied (pending l kinds a b) out out' n
  pub left : pending_of (state_net l kinds a b) state ≡ drop n (pending l kinds a b)

-- no line is longer than its plan by more than eleven bytes
line-short : (d : Due) (s : List ℕ) → length (line_of d s) ≤ length s + 11
line-short (D.Plan left) [] = omega arith
line-short (D.Plan left) (x ∷ s) = omega (arith, length-append (plan_text (x ∷ s)) (10 ∷ []), length-map s character)
line-short D.More s = omega arith
line-short D.End s = omega arith
line-short (D.Refused n) s = refusal-short (ltb n 10)
  where
    refusal-short : (b : Bool) → length (line ((114 ∷ 101 ∷ 102 ∷ 117 ∷ 115 ∷ 101 ∷ 100 ∷ 32 ∷ []) ++ cond b ((48 + n) ∷ []) ((48 + n / 10) ∷ (48 + n % 10) ∷ []))) ≤ length s + 11
    refusal-short true = omega arith
    refusal-short false = omega arith

module _ (l : Lister) (kinds a b out : List ℕ) where
  -- the network, and what is to be printed
  abbrev N : Network
  N = state_net l kinds a b

  abbrev text : List ℕ
  text = pending l kinds a b

  pub print-none : Printing l kinds a b out out l 0
  print-none = record { basins-kept = refl; laid = copied_none _ _; left = refl }

  module _ (out' : List ℕ) (state : Lister) (n : ℕ) (p : Printing l kinds a b out out' state n) where
    -- the network is the same
    pub same-net : state_net state kinds a b ≡ N
    same-net = ap (λ (k : ℕ). net_of k kinds a b) p.basins-kept

    -- a state that is turned to
    pub turned-here : {r : Lister} → Turned (state_net state kinds a b) state r → Turned N state r
    turned-here {r} t = subst (λ (M : Network). Turned M state r) same-net t

    pub print-turn : {r : Lister} → Turned (state_net state kinds a b) state r → Printing l kinds a b out out' r n
    print-turn t =
        let turned = turned-here t in
        record { basins-kept = turned.basins-kept ∙ p.basins-kept; laid = p.laid; left = turned.same ∙ p.left }

    -- a state of which so many bytes are printed
    printed-in : (out'' : List ℕ) → Put text out out'' n → Filling l kinds a b out out'' (record { lister = state; count = n })
    printed-in out'' put = record { printed = put; to-print = ap (λ (M : Network). pending_of M state) same-net ∙ p.left }

    -- the buffer is full
    pub print-full : length out ≤ n → Filling l kinds a b out out' (record { lister = state; count = n })
    print-full full = printed-in out' (copied-end p.laid (omega (arith, p.laid.within, p.laid.room)) (omega arith))

    -- the first bytes of what is left of the line go into the rest of the buffer
    module _ {g k : ℕ} {part : List ℕ} (held : g ≡ gates_held N) (put : Put (drop state.at (line_of state.due (take g state.setting))) (take (length out' - n) (drop n out')) part k) where
      rest : List ℕ
      rest = rest_of N state

      rest_put : Put rest (drop n out') part k
      unfolding rest rest_of
      rest_put = rw (held, take_rest n out') at put

      abbrev filled : List ℕ
      filled = take n out' ++ (part ++ drop (length out' - n) (drop n out'))

      in_rest : k ≤ length rest
      in_rest = omega (arith, rest_put.count)

      abbrev later : List ℕ
      later = lines_after N state.due (plan_in_hand N state)

      whole : rest ++ later ≡ drop n text
      unfolding rest pending_of
      whole = p.left

      -- the next k bytes of what is to be printed
      next-bytes : take k rest ≡ take k (drop n text)
      next-bytes = sym (ap (take k) (sym whole) ∙ take-append-le k rest later in_rest)

      front : take n out' ≡ take n text
      front = ap (take n) p.laid.bytes ∙ take_at (take n text) (drop n out) n (length-take-le n text p.laid.within)

      behind : drop n out' ≡ drop n out
      behind = ap (drop n) p.laid.bytes ∙ drop_at (take n text) (drop n out) n (length-take-le n text p.laid.within)

      nothing-more : drop (length out' - n) (drop n out') ≡ []
      nothing-more = drop-rest n out'

      part-is : part ≡ take k (drop n text) ++ drop (n + k) out
      part-is = rest_put.bytes ∙ rw (next-bytes, behind, drop-drop k n out)

      filled_is : filled ≡ take (n + k) text ++ drop (n + k) out
      filled_is =
          ap (λ (t : List ℕ). take n out' ++ (part ++ t)) nothing-more
          ∙ ap (λ (t : List ℕ). take n out' ++ t) (append-nil part ∙ part-is)
          ∙ ap (λ (t : List ℕ). t ++ (take k (drop n text) ++ drop (n + k) out)) front
          ∙ sym (append_assoc (take n text) (take k (drop n text)) (drop (n + k) out))
          ∙ ap (λ (t : List ℕ). t ++ drop (n + k) out) (sym (take-add n k text))

      pub print-laid : Copied text out filled (n + k)
      print-laid =
          record {
            within = omega (arith, in_rest, p.laid.within, ap length whole, length-drop n text, length-append rest later);
            room = omega (arith, rest_put.count, length-drop n out', copied-length p.laid);
            bytes = filled_is;
          }

      -- the place in the line stays a number of the machine
      pub place_short : (k ≡ 0 → ⊥) → state.at + k ≤ g + 11
      place_short some =
          let held_bytes = take g state.setting in
          omega (arith, put.count, length-drop state.at (line_of state.due held_bytes), line-short state.due held_bytes, length-take g state.setting)

      abbrev after : Lister
      after = record { basins = state.basins; due = state.due; at = state.at + k; setting = state.setting }

      pub print-more : Printing l kinds a b out filled after (n + k)
      unfolding rest rest_of pending_of
      print-more =
          record {
            basins-kept = p.basins-kept;
            laid = print-laid;
            left =
                ap (λ (t : List ℕ). t ++ later) (sym (drop-drop k state.at (line_of state.due (plan_in_hand N state))))
                ∙ sym (drop-append-le k rest later in_rest)
                ∙ ap (drop k) whole
                ∙ drop-drop k n text;
          }

      -- nothing is left of the line, and so nothing is left at all
      pub print-end : n < length out → k ≡ 0 → (rest_of N state ≡ [] → pending_of N state ≡ []) → Filling l kinds a b out filled (record { lister = state; count = n })
      unfolding rest
      print-end room none ended =
          let gone : rest_of N state ≡ [] = nil-of-length (rest_of N state) (omega (arith, rest_put.count, length-drop n out', copied-length p.laid)) in
          let same : n + k ≡ n = omega arith in
          printed-in filled
          (copied-end (subst (λ (m : ℕ). Copied text out filled m) same print-laid)
          (omega (arith, p.laid.within, ap length (sym p.left ∙ ended gone), length-drop n text))
          (omega arith))

-- ---- what a caller of the filling knows

module _ {l : Lister} {kinds a b out out' : List ℕ} {r : Filled} (f : Filling l kinds a b out out' r) where
  -- the buffer keeps its length, and the bytes lie within it
  pub fill-length : length out' ≡ length out
  fill-length = copied-length (put-copied f.printed)

  pub fill-within : r.count ≤ length out'
  fill-within = omega (arith, fill-length, f.printed.count)

  -- where something is printed, less is to be printed
  pub fill-less : (r.count ≡ 0 → ⊥) → length (pending r.lister kinds a b) < length (pending l kinds a b)
  fill-less some = omega (arith, ap length f.to-print, length-drop r.count (pending l kinds a b), f.printed.count)

  -- nothing is printed into a buffer exactly if nothing is to be printed
  pub fill_done : 0 < length out → (r.count ≡ 0) ↔ (pending l kinds a b ≡ [])
  fill_done room = (
    λ z. nil-of-length (pending l kinds a b) (omega (arith, f.printed.count)),
    λ e. omega (arith, f.printed.count, ap length e),
  )

-- Two buffers that are filled one after the other hold what one buffer of both their lengths would hold: so the bytes of all buffers, in order, are
-- the first bytes of what was to be printed.
module _ {l : Lister} {kinds a b x x' y y' : List ℕ} {r s : Filled} (f : Filling l kinds a b x x' r) (g : Filling r.lister kinds a b y y' s) where
  abbrev all : List ℕ
  all = pending l kinds a b

  second : Put (drop r.count all) y y' s.count
  second = subst (λ (t : List ℕ). Put t y y' s.count) f.to-print g.printed

  abbrev both : ℕ
  both = r.count + s.count

  joined : (r.count ≡ length x) ⊎ (s.count ≡ 0) → x' ++ y' ≡ take both all ++ drop both (x ++ y)
  joined (inl full) =
      let gone : drop r.count x ≡ [] = nil-of-length (drop r.count x) (omega (arith, length-drop r.count x)) in
      ap (λ (t : List ℕ). t ++ y') (f.printed.bytes ∙ ap (λ (t : List ℕ). take r.count all ++ t) gone ∙ append-nil (take r.count all))
      ∙ ap (λ (t : List ℕ). take r.count all ++ t) second.bytes
      ∙ sym (append_assoc (take r.count all) (take s.count (drop r.count all)) (drop s.count y))
      ∙ ap (λ (t : List ℕ). t ++ drop s.count y) (sym (take-add r.count s.count all))
      ∙ ap (λ (t : List ℕ). take both all ++ t) (sym (ap (λ (k : ℕ). drop (k + s.count) (x ++ y)) full ∙ drop-append-add x y s.count))
  joined (inr none) =
      let same : both ≡ r.count = omega arith in
      let kept : y' ≡ y = second.bytes ∙ ap (λ (k : ℕ). take k (drop r.count all) ++ drop k y) none in
      ap (λ (t : List ℕ). x' ++ t) kept
      ∙ ap (λ (t : List ℕ). t ++ y) f.printed.bytes
      ∙ append_assoc (take r.count all) (drop r.count x) y
      ∙ ap (λ (t : List ℕ). take r.count all ++ t) (sym (drop-append-le r.count x y (omega (arith, f.printed.count))))
      ∙ sym (ap (λ (k : ℕ). take k all ++ drop k (x ++ y)) same)

  pub fills-join : Filling l kinds a b (x ++ y) (x' ++ y') (record { lister = s.lister; count = both })
  fills-join =
      record {
        printed = record { count = omega (arith, f.printed.count, second.count, length-drop r.count all, length-append x y); bytes = joined cases };
        to-print = g.to-print ∙ ap (drop s.count) f.to-print ∙ drop-drop s.count r.count all;
      }
    where
      cases : (r.count ≡ length x) ⊎ (s.count ≡ 0)
      cases = ⊎_elim (λ e. inl (eqb-true r.count (length x) e)) (λ n. inr (omega (arith, f.printed.count, second.count, length-drop r.count all, eqb-false r.count (length x) n))) (decide (eqb r.count (length x)))
