-- What is printed of any file: a line for one of 1 to 6, 9 and 10, or the plans from the first on.
-- Assumes nothing.
use Rattle.std.specs.Prelude.{Some, None, Option as Length}
use Prim.Native.Nat.{ℕ, zero, suc}
use mathlib.Core.Path.{◌≡◌, refl, sym, ap, subst, ◌∙◌}
use mathlib.Core.Bool.{Bool, true, false, cond, ◌&&◌, true≢false}
use mathlib.Core.List.{List, [], ◌∷◌}
use mathlib.Core.Option.{Option, none, some}
use lib.ListN.{length, take}
use lib.Dec.{eqb, leb, ltb}
use Rattle.network.specs.declared.Reach.{Reach}
use Rattle.network.specs.declared.Refusal.{Refusal}
use Rattle.network.specs.declared.Refusal.TheVariants.{BasinCount, TooManyReaches, EndOutOfRange, Truncated, UnknownKind, TrailingBytes, ShortBuffer, BadSetting, LastPlan}
use Rattle.network.specs.Networks.{Network, max_basins, max_reaches}
use Rattle.lists.specs.Words.{word_of}
use Rattle.lists.specs.Lists.{elem}
use Rattle.network.specs.Plans.{first_plan}
use Rattle.network.specs.Certificates.{Trichotomy, has-plan, not-passable, has-bridge}
use Rattle.network.specs.Replies.{refusal_number, chosen, shut_in_finding, lone_finding, first_answer}
use Rattle.network.proofs.Order.{first-none}
use Rattle.network.proofs.Replies.{trichotomy}
use Rattle.file_records.specs.Records.{Front, broken, whole, body_of, with_body, take_record, end_kind}
use lib.Pow.{are_bytes}
use Rattle.netfile_format.specs.Files.{Reading, refused, read, head_due, reach_due, on_record, at_end, good_inner, record_reach, with_reach, inside, read_reaches, read_file}
use Rattle.netfile_format.proofs.Files.{file-write-read}
use Rattle.lines.specs.Listings.{max_bytes, max_plans, refusal_line, reply_lines, reading_lines, listing}
use Rattle.listing.specs.Laws.{Printed, one_line, plans}
use Rattle.listing_state.proofs.Starts.{bytes-first}

-- ---- a file is refused by one of 1 to 6

abbrev OfFile : Refusal → Type 0
OfFile r = elem (refusal_number r) (1 ∷ 2 ∷ 3 ∷ 4 ∷ 5 ∷ 6 ∷ []) ≡ true

data Fair : Reading → Type 0 where
  fair-refused : {r : Refusal} → OfFile r → Fair (refused r)
  fair-read : {N : Network} → Fair (read N)

data FairFront : Front → Type 0 where
  fair-broken : {r : Refusal} → OfFile r → FairFront (broken r)
  fair-whole : {k : ℕ} {body rest : List ℕ} → FairFront (whole k body rest)

module _ {A : Type 0} (P : A → Type 0) where
  pick : (b : Bool) {x y : A} → P x → P y → P (cond b x y)
  pick true p q = p
  pick false p q = q

body-fair : (k : ℕ) (n : Length ℕ) (f : List ℕ) → FairFront (with_body k n f)
body-fair k None f = fair-broken refl
body-fair k (Some n) f = pick FairFront (leb n (length f)) fair-whole (fair-broken refl)

front-fair : (kinds f : List ℕ) → FairFront (take_record kinds f)
front-fair kinds [] = fair-broken refl
front-fair kinds (k ∷ f) = pick FairFront (elem k kinds) (body-fair k (body_of k) f) (fair-broken refl)

record-fair : {x : Front} {g : ℕ → List ℕ → List ℕ → Reading} → FairFront x → ((k : ℕ) (body rest : List ℕ) → Fair (g k body rest)) → Fair (on_record x g)
record-fair (fair-broken e) h = fair-refused e
record-fair fair-whole h = h _ _ _

end-fair : (n : ℕ) (rest : List ℕ) → Fair (at_end n rest)
end-fair n [] = fair-read
end-fair n (x ∷ rest) = fair-refused refl

reach-fair : (r : Reach) {x : Reading} → Fair x → Fair (with_reach r x)
reach-fair r (fair-refused e) = fair-refused e
reach-fair r fair-read = fair-read

inside-fair : (n : ℕ) (g : Reach → List ℕ → Reading) → ((r : Reach) (rest : List ℕ) → Fair (g r rest)) → (f : List ℕ) → Fair (inside n g f)
inside-fair n g h f =
    record-fair (front-fair reach_due f) (λ k body rest. pick Fair (eqb k end_kind) (end-fair n rest) (pick Fair (good_inner k body) (h (record_reach k body) rest) (fair-refused refl)))

reaches-fair : (n left : ℕ) (f : List ℕ) → Fair (read_reaches n left f)
unfolding read_reaches
reaches-fair n zero f = inside-fair n (λ r rest. refused TooManyReaches) (λ r rest. fair-refused refl) f
reaches-fair n (suc left) f =
    inside-fair n (λ r rest. cond (ltb r.a n && ltb r.b n) (with_reach r (read_reaches n left rest)) (refused EndOutOfRange))
    (λ r rest. pick Fair (ltb r.a n && ltb r.b n) (reach-fair r (reaches-fair n left rest)) (fair-refused refl)) f

file-fair : (f : List ℕ) → Fair (read_file f)
unfolding read_file
file-fair f =
    record-fair (front-fair head_due f)
    (λ k body rest. pick Fair (leb 1 (word_of body) && leb (word_of body) max_basins) (reaches-fair (word_of body) max_reaches rest) (fair-refused refl))

-- ---- what is printed

-- a refusal of a file is a line
refusal-printed : (file : List ℕ) (r : Refusal) → OfFile r → listing file ≡ refusal_line (refusal_number r) → Printed file
refusal-printed file BasinCount h e = one_line 1 refl e
refusal-printed file TooManyReaches h e = one_line 2 refl e
refusal-printed file EndOutOfRange h e = one_line 3 refl e
refusal-printed file Truncated h e = one_line 4 refl e
refusal-printed file UnknownKind h e = one_line 5 refl e
refusal-printed file TrailingBytes h e = one_line 6 refl e
refusal-printed file ShortBuffer h e = absurd (true≢false (sym h))
refusal-printed file BadSetting h e = absurd (true≢false (sym h))
refusal-printed file LastPlan h e = absurd (true≢false (sym h))

pub printed : (file : List ℕ) → are_bytes file ≡ true → Printed file
unfolding listing first_answer shut_in_finding lone_finding
printed file bytes = go (read_file (take max_bytes file)) refl
  where
    of-network : (N : Network) → read_file (take max_bytes file) ≡ read N → Trichotomy N → Printed file
    of-network N e (has-plan s is f) = first (first_plan N) refl
      where
        first : (o : Option (List ℕ)) → first_plan N ≡ o → Printed file
        first none n = absurd (first-none N n s is)
        first (some p) y = plans N p e y (ap reading_lines e ∙ ap (reply_lines N max_plans) (f (first_plan N) ∙ ap chosen y))
    of-network N e (not-passable n none_is f) = one_line 9 refl (ap reading_lines e ∙ ap (reply_lines N max_plans) (f (first_plan N)))
    of-network N e (has-bridge i l y none_is f) = one_line 10 refl (ap reading_lines e ∙ ap (reply_lines N max_plans) (f (first_plan N)))

    refused-by : (r : Refusal) → Fair (refused r) → OfFile r
    refused-by r (fair-refused h) = h

    go : (x : Reading) → read_file (take max_bytes file) ≡ x → Printed file
    go (refused r) e = refusal-printed file r (refused-by r (subst Fair e (file-fair (take max_bytes file)))) (ap reading_lines e)
    go (read N) e = of-network N e (trichotomy N (file-write-read (take max_bytes file) N (bytes-first max_bytes file bytes) e).accepted)
