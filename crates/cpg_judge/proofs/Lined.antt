-- what every kind of script shares of its lines, offered again for the functions that cite it
pub use Rattle.cpg_text.proofs.Lined.{none_written}
