-- the command of an event is read as that event
use Rattle.std.proofs.Common.{◌≡◌, ℕ, ◌≤◌, ◌<◌, ◌^◌, [], ◌∷◌, ◌++◌, true, Some, refl, ap, ◌∙◌, arith}
use Rattle.std.proofs.lemmas.Bool.Decides.{nat_tests}
use Rattle.std.specs.Prelude.{codes, decimal, nat_le}
use Rattle.cpg_cred.specs.declared.nodes.TheConstants.{MOST_NODES}
use Rattle.cpg_entry.specs.declared.ranges.TheConstants.{MOST_CONNECTIONS}
use Rattle.cpg_entry.specs.Widths.{IsU32}
use Rattle.cpg_world_laws.specs.declared.events.WorldEvent.{WorldEvent}
use Rattle.cpg_world_laws.specs.declared.events.WorldEvent.TheVariants.{Connect, Submit, Disconnect, Frame, Timer, Deliver, Take, List as Listing, Groups}
use Rattle.cpg_text.specs.Lines.{words_of}
use Rattle.cpg_text.specs.Words.{◌>>=◌, u32_of}
use Rattle.cpg_print.specs.Calls.{call_text}
use Rattle.cpg_print.proofs.CallWords.{call_again, name_word}
use Rattle.cpg_print.proofs.Numerals.{decimal_word, number_back}
use Rattle.cpg_print.proofs.Spacing.{words_first, words_last, words_spaced, two_spaced}
use Rattle.cpg_step.specs.Commands.{node_of, in_ring, conn_of, command_of}
use Rattle.cpg_step.specs.declared.commands.Command.TheVariants.{Act}
use Rattle.cpg_cluster.specs.TraceLines.{IsInRing, IsPlace, IsSayable, event_text, pair_text}

-- two numbers are two words
pair_words : (a b : ℕ) → a < 2 ^ 64 → b < 2 ^ 64 → words_of (pair_text a b) ≡ decimal a ∷ decimal b ∷ []
pair_words a b small fits = words_spaced (decimal a) (decimal b) (decimal_word a small) ∙ ap (λ l. decimal a ∷ l) (words_last (decimal b) (decimal_word b fits))

wide : (n : ℕ) → IsU32 n → n < 2 ^ 64
wide n fits = omega (arith, fits.1)

u32_back : (n : ℕ) → IsU32 n → u32_of (decimal n) ≡ Some n
u32_back n fits = number_back 0 4294967295 n (omega (arith, fits.1)) fits

module _ (nodes : ℕ) (few : nodes ≤ MOST_NODES) where
  small : (n : ℕ) → IsInRing nodes n → n < 2 ^ 64
  small n is = let a = is.1 in omega (arith, a, few)

  node_back : (n : ℕ) → IsInRing nodes n → node_of nodes (decimal n) ≡ Some n
  node_back n is =
      let low = is.0 in
      let high = is.1 in
      let within : nat_le n nodes ≡ true = grind (arith, nat_tests) in
      ap (λ o. o >>= in_ring nodes) (number_back 1 MOST_NODES n (small n is) (low, omega (arith, high, few))) ∙ rw within refl

  conn_back : (conn : ℕ) → 1 ≤ conn → conn ≤ MOST_CONNECTIONS → conn_of (decimal conn) ≡ Some conn
  conn_back conn low high = number_back 1 MOST_CONNECTIONS conn (omega (arith, high)) (low, high)

  place_words : (n conn : ℕ) → IsPlace nodes n conn → words_of (pair_text n conn) ≡ decimal n ∷ decimal conn ∷ []
  place_words n conn is = let high = is.3 in pair_words n conn (small n (is.0, is.1)) (omega (arith, high))

  pub event_back : (event : WorldEvent) → IsSayable nodes event → command_of nodes (words_of (event_text event)) ≡ Some (Act event)
  event_back (Timer n) is =
      ap (command_of nodes) (words_first (codes "timer") (decimal n) refl ∙ ap (λ l. codes "timer" ∷ l) (words_last (decimal n) (decimal_word n (small n is))))
      ∙ rw (node_back n is) refl
  event_back (Deliver n) is =
      ap (command_of nodes) (words_first (codes "deliver") (decimal n) refl ∙ ap (λ l. codes "deliver" ∷ l) (words_last (decimal n) (decimal_word n (small n is))))
      ∙ rw (node_back n is) refl
  event_back (Disconnect n conn) is =
      ap (command_of nodes) (words_first (codes "disconnect") (pair_text n conn) refl ∙ ap (λ l. codes "disconnect" ∷ l) (place_words n conn is))
      ∙ rw (node_back n (is.0, is.1), conn_back conn is.2 is.3) refl
  event_back (Take n conn) is =
      ap (command_of nodes) (words_first (codes "take") (pair_text n conn) refl ∙ ap (λ l. codes "take" ∷ l) (place_words n conn is))
      ∙ rw (node_back n (is.0, is.1), conn_back conn is.2 is.3) refl
  event_back (Groups n conn) is =
      ap (command_of nodes) (words_first (codes "groups") (pair_text n conn) refl ∙ ap (λ l. codes "groups" ∷ l) (place_words n conn is))
      ∙ rw (node_back n (is.0, is.1), conn_back conn is.2 is.3) refl
  event_back (Frame n number) is =
      ap (command_of nodes) (words_first (codes "frame") (pair_text n number) refl ∙ ap (λ l. codes "frame" ∷ l) (pair_words n number (small n is.0) is.1))
      ∙ rw (node_back n is.0, number_back 0 18446744073709551615 number is.1 (zero_below number, below number is.1)) refl
    where
      zero_below : (k : ℕ) → 0 ≤ k
      zero_below k = omega arith

      below : (k : ℕ) → k < 2 ^ 64 → k ≤ 18446744073709551615
      below k h = omega (arith, h)
  event_back (Listing n conn g) is =
      let node = decimal_word n (small n (is.0.0, is.0.1)) in
      let high = is.0.3 in
      let number = decimal_word conn (omega (arith, high)) in
      ap (command_of nodes) (words_first (codes "list") (decimal n ++ codes " " ++ decimal conn ++ codes " " ++ g) refl ∙ ap (λ l. codes "list" ∷ l) (two_spaced (decimal n) (decimal conn) g node number ∙ ap (λ l. decimal n ∷ decimal conn ∷ l) (words_last g (name_word g is.1))))
      ∙ rw (node_back n (is.0.0, is.0.1), conn_back conn is.0.2 is.0.3) refl
  event_back (Submit n conn call) is =
      let node = decimal_word n (small n (is.0.0, is.0.1)) in
      let high = is.0.3 in
      let number = decimal_word conn (omega (arith, high)) in
      ap (command_of nodes) (words_first (codes "call") (decimal n ++ codes " " ++ decimal conn ++ codes " " ++ call_text call) refl ∙ ap (λ l. codes "call" ∷ l) (two_spaced (decimal n) (decimal conn) (call_text call) node number))
      ∙ rw (node_back n (is.0.0, is.0.1), conn_back conn is.0.2 is.0.3, call_again call is.1 is.2 is.3) refl
  event_back (Connect n pid cred) is =
      let node = decimal_word n (small n is.0) in
      let process = decimal_word pid (wide pid is.1) in
      ap (command_of nodes) (words_first (codes "connect") (decimal n ++ codes " " ++ decimal pid ++ codes " " ++ pair_text cred.uid cred.gid) refl ∙ ap (λ l. codes "connect" ∷ l) (two_spaced (decimal n) (decimal pid) (pair_text cred.uid cred.gid) node process ∙ ap (λ l. decimal n ∷ decimal pid ∷ l) (pair_words cred.uid cred.gid (wide cred.uid is.2) (wide cred.gid is.3))))
      ∙ rw (node_back n is.0, u32_back pid is.1, u32_back cred.uid is.2, u32_back cred.gid is.3) refl
