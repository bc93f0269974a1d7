-- Laws of the other case, of folded sets, and of lists that differ only in the case of letters.
pub mod Laws
pub mod Lists
