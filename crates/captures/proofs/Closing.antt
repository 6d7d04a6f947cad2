-- One message more: the numbers stand for the tally with it. Assumes nothing.
use Rattle.std.proofs.Common.{◌≡◌, ℕ, zero, suc, ◌+◌, ◌%◌, ◌^◌, ◌<◌, ◌≤◌, List, [], ◌∷◌, length, get_or, take, sym, refl, ap, ◌∙◌, subst, ap₂, arith, ext_get_or, le-ltb, lt-ltb}
use Rattle.std.specs.Prelude as code
use mathlib.Core.Option.{Option, none, some}
use native.Mathlib.Decide.{dec_lt}
use Rattle.options.specs.Reading.{Reading, refused, read_message}
use Rattle.options.specs.Captures.{if_accepted, if_refused_by, if_holds, joined_size, lease_time, widened, Lease, no_lease, leases, Tally, raised, noted_as, noted}
use Rattle.tally.specs.Noted.{lease_in, time_in_value, widened_by, Raises, verdict_count, Notes, Lent}
use Rattle.captures.specs.declared.Progress.{Progress}
use Rattle.captures.specs.Standing.{wrap, wrapped, closed64, Holds, before_record, Small, Stands, behind_of, NotesKept, Closes}

raised_length : (f : ℕ → ℕ) (c : ℕ) (xs : List ℕ) → length (raised f c xs) ≡ length xs
unfolding raised
raised_length f c [] = refl
raised_length f c (x ∷ xs) = ap suc (raised_length f (suc c) xs)

raised_at : (f : ℕ → ℕ) (c : ℕ) (xs : List ℕ) (i : ℕ) → i < length xs → get_or (raised f c xs) i 0 ≡ get_or xs i 0 + f (c + i)
unfolding raised
raised_at f c [] i h = absurd (omega arith)
raised_at f c (x ∷ xs) zero h = let z : c ≡ c + 0 = omega arith in ap (λ (k : ℕ). x + f k) z
raised_at f c (x ∷ xs) (suc i) h = let z : suc c + i ≡ c + suc i = omega arith in raised_at f (suc c) xs i (omega arith) ∙ ap (λ (k : ℕ). get_or xs i 0 + f k) z

wrap_length : (xs : List ℕ) → length (wrap xs) ≡ length xs
unfolding wrap
wrap_length [] = refl
wrap_length (x ∷ xs) = ap suc (wrap_length xs)

wrap_at : (xs : List ℕ) (i : ℕ) → get_or (wrap xs) i 0 ≡ get_or xs i 0 % 2 ^ 64
unfolding wrap
wrap_at [] i = refl
wrap_at (x ∷ xs) zero = refl
wrap_at (x ∷ xs) (suc i) = wrap_at xs i

-- numbers by code
raised_is : (f : ℕ → ℕ) (xs ys : List ℕ) → ((i : ℕ) → get_or xs i 0 < 2 ^ 64) → Raises f xs ys → ys ≡ wrap (raised f 0 xs)
raised_is f xs ys h r =
    ext_get_or 0 ys (wrap (raised f 0 xs)) (r.same_length ∙ sym (wrap_length (raised f 0 xs) ∙ raised_length f 0 xs)) (λ i l. at i (omega (arith, r.same_length)))
  where
    at : (i : ℕ) → i < length xs → get_or ys i 0 ≡ get_or (wrap (raised f 0 xs)) i 0
    at i l =
        let z : 0 + i ≡ i = omega arith in
        r.each i l (h i) ∙ sym (wrap_at (raised f 0 xs) i ∙ ap (λ (n : ℕ). n % 2 ^ 64) (raised_at f 0 xs i l ∙ ap (λ (k : ℕ). get_or xs i 0 + f k) z))

-- the verdicts: accepted, and refused by 1 to 7
verdicts_is : (w : Reading) (a : ℕ) (rs ys : List ℕ) → ((i : ℕ) → get_or (a ∷ rs) i 0 < 2 ^ 64) → Raises (verdict_count w) (a ∷ rs) ys
    → ys ≡ ((a + if_accepted w) % 2 ^ 64) ∷ wrap (raised (λ n. if_refused_by n w) 1 rs)
verdicts_is w a rs ys h r =
    ext_get_or 0 ys (((a + if_accepted w) % 2 ^ 64) ∷ wrap rest) (r.same_length ∙ ap suc (sym (wrap_length rest ∙ raised_length (λ n. if_refused_by n w) 1 rs)))
    (λ i l. at i (let z = r.same_length in omega arith))
  where
    rest : List ℕ
    rest = raised (λ n. if_refused_by n w) 1 rs

    at : (i : ℕ) → i < suc (length rs) → get_or ys i 0 ≡ get_or (((a + if_accepted w) % 2 ^ 64) ∷ wrap rest) i 0
    at zero l = r.each 0 (omega arith) (h 0)
    at (suc i) l =
        let z : 1 + i ≡ suc i = omega arith in
        r.each (suc i) (omega arith) (h (suc i))
        ∙ sym (wrap_at rest i ∙ ap (λ (n : ℕ). n % 2 ^ 64) (raised_at (λ n. if_refused_by n w) 1 rs i (omega arith) ∙ ap (λ (k : ℕ). get_or rs i 0 + if_refused_by k w) z))

wrap_small : (xs : List ℕ) (i : ℕ) → get_or (wrap xs) i 0 < 2 ^ 64
wrap_small xs i = omega (arith, wrap_at xs i)

-- lease times that were given, with that of a message
lease_more : (o : Option ℕ) (z : Lease) → widened_by (time_in_value o) (lease_in z) ≡ lease_in (widened o z)
lease_more none no_lease = refl
lease_more none (leases s l) = refl
lease_more (some n) no_lease = refl
lease_more (some n) (leases s l) = refl

module _ (i : ℕ) (kept : List ℕ) (x : Tally) (n : ℕ) (p : Progress) (v h b : List ℕ) (t : code.Option ℕ) (v' h' b' : List ℕ) where
  holds_more : n ≡ length kept → Holds i x p v h b → Small v h b → Notes (read_message kept) v h b t v' h' b'
      → Holds ((i + 3 + length kept) % 2 ^ 64) (wrapped (noted kept x)) (behind_of p n t) v' h' b'
  unfolding noted_as wrapped
  holds_more e s k o =
      record {
        began_is = omega (arith, s.began_is, e);
        messages_is = ap (λ (y : ℕ). (y + 1) % 2 ^ 64) s.messages_is;
        lease_is = ap₂ widened_by o.time_is s.lease_is ∙ lease_more (lease_time (read_message kept)) x.lease;
        verdicts_are = verdicts_is (read_message kept) x.accepts x.refusals v' (subst (λ (y : List ℕ). (j : ℕ) → get_or y j 0 < 2 ^ 64) s.verdicts_are k.verdicts_small) (subst (λ (y : List ℕ). Raises (verdict_count (read_message kept)) y v') s.verdicts_are o.verdicts_raised);
        held_are = raised_is (λ c. if_holds c (read_message kept)) h h' k.held_small o.held_raised ∙ ap (λ (y : List ℕ). wrap (raised (λ c. if_holds c (read_message kept)) 0 y)) s.held_are;
        bytes_are = raised_is (λ c. joined_size c (read_message kept)) b b' k.bytes_small o.bytes_raised ∙ ap (λ (y : List ℕ). wrap (raised (λ c. joined_size c (read_message kept)) 0 y)) s.bytes_are;
      }

  small_more : Holds i x p v h b → Small v h b → Notes (read_message kept) v h b t v' h' b' → Small v' h' b'
  small_more s k o =
      record {
        verdicts_small = λ j. verdicts j;
        held_small = λ j. omega (arith, ap (λ (ys : List ℕ). get_or ys j 0) (raised_is (λ c. if_holds c (read_message kept)) h h' k.held_small o.held_raised), wrap_small (raised (λ c. if_holds c (read_message kept)) 0 h) j);
        bytes_small = λ j. omega (arith, ap (λ (ys : List ℕ). get_or ys j 0) (raised_is (λ c. joined_size c (read_message kept)) b b' k.bytes_small o.bytes_raised), wrap_small (raised (λ c. joined_size c (read_message kept)) 0 b) j);
      }
    where
      verdicts : (j : ℕ) → get_or v' j 0 < 2 ^ 64
      verdicts j =
          omega (arith, ap (λ (ys : List ℕ). get_or ys j 0) (raised_is (verdict_count (read_message kept)) v v' k.verdicts_small o.verdicts_raised), wrap_small (raised (verdict_count (read_message kept)) 0 v) j)

  lent_more : Lent v h b → Notes (read_message kept) v h b t v' h' b' → Lent v' h' b'
  lent_more l o =
      record { eight = o.verdicts_raised.same_length ∙ l.eight; held_all = o.held_raised.same_length ∙ l.held_all; bytes_all = o.bytes_raised.same_length ∙ l.bytes_all }

  pub closes_as : (message : List ℕ) → n ≡ length kept → 1472 ≤ length message → Holds i x p v h b → Lent v h b → Small v h b → Notes (read_message kept) v h b t v' h' b'
      → Stands (closed64 i kept x) (behind_of p n t) message v' h' b'
  closes_as message e room s l k o =
      record {
        holds = holds_more e s k o;
        stage_is = before_record refl refl refl refl;
        room = room;
        lent = lent_more l o;
        small = small_more s k o;
      }

-- a message over 1,472 bytes is refused by 2, whatever it holds
long_refused : (m : List ℕ) → 1472 < length m → read_message m ≡ refused 2 (length m)
unfolding read_message
long_refused m h = rw (le-ltb (length m) 240 (omega arith), lt-ltb 1472 (length m) h)

module _ (n : ℕ) (p : Progress) (message v h b : List ℕ) (t : code.Option ℕ) (v' h' b' : List ℕ) (k : NotesKept n message v h b t v' h' b') where
  notes_kept : (kept : List ℕ) → n ≡ length kept → 1472 ≤ length message → (n ≤ length message → take n message ≡ kept) → Notes (read_message kept) v h b t v' h' b'
  notes_kept kept e room q = by (dec_lt (length message) n)
    where
      by : Dec (length message < n) → Notes (read_message kept) v h b t v' h' b'
      by (yes z) = subst (λ (w : Reading). Notes w v h b t v' h' b') (sym (long_refused kept (omega arith))) (k.if_long z (length kept))
      by (no z) =
          let y : n ≤ length message = omega (arith, z) in
          subst (λ (m : List ℕ). Notes (read_message m) v h b t v' h' b') (q y) (k.if_kept y)

  pub closes : Closes n p message v h b (behind_of p n t) v' h' b'
  closes i kept x e room q s l w = closes_as i kept x n p v h b t v' h' b' message e room s l w (notes_kept kept e room q)
