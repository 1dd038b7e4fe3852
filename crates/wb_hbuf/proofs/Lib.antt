mod Units
mod Drafts
mod ReadUnits
mod WrittenUnits
mod Edits
mod Granted
